-- What a device call did, by what it answered.
use Rattle.std.proofs.Common.{◌≡◌, ◌≤◌, [], Bool, true, false, Result, Ok, Err, OnOk, IfOk, OnErr, sym, ◌∙◌, ap, subst}
use Rattle.std.specs.Prelude.{IsErrOf}
use Rattle.std.proofs.lemmas.List.{append-nil}
use Rattle.std.specs.declared.alloc.AllocError.{AllocError}
use Rattle.cw_base.specs.Memory.{counted}
use Rattle.node_disk.specs.Disk.{IsSame}
use Rattle.node_disk.specs.Record.{Request, has_succeeded}
use Rattle.node_disk.specs.Memory.{MemoryState, memory_state, next_outcome, HasCalled, HasCounted, answer_of, Continues}
use Rattle.node_disk.specs.declared.disk.DiskError.{DiskError}
use Rattle.node_disk.specs.declared.disk.DiskError.TheVariants.{Failed, NoMemory}
use Rattle.node_disk.proofs.Called.{called_continues}

-- a call that was done, one that failed, and one that was refused for memory
pub record HasGone (request : Request) (result : Result (Unit {0}) DiskError)
    (old new : MemoryState) : Type 0 where
  pub done : OnOk result (HasCalled request old new × (has_succeeded (next_outcome old) ≡ true))
  pub failed : result ≡ Err Failed
      → HasCalled request old new × (has_succeeded (next_outcome old) ≡ false)
  pub same : result ≡ Err NoMemory → IsSame (memory_state old) (memory_state new)
  pub calm : OnOk result (new.faults ≡ old.faults)
  pub fault_counted : result ≡ Err Failed → new.faults ≡ counted old.faults
  pub no_fault : result ≡ Err NoMemory → new.faults ≡ old.faults
  pub faults : old.faults ≤ new.faults
  pub tries : new.tries ≡ counted old.tries
  pub continues : Continues old new

no_error : (e : DiskError) → IsErrOf {T = Unit {0}} (Ok tt) e → ⊥
no_error e is = cc

pub both_ok : {T E A B Q : Type 0} (r : Result T E) → OnOk r (A × B) → (A → B → Q) → OnOk r Q
both_ok (Ok v) both so = so both.0 both.1
both_ok (Err e) both so = tt

not_both : IsErrOf {T = Unit {0}} (Err Failed) NoMemory → ⊥
not_both is = cc

-- the counts aside nothing more was done
called_on : (request : Request) (made : Result Bool AllocError) (old mid new : MemoryState)
    → HasCalled request old mid → HasCounted made mid new → HasCalled request old new
called_on request made old mid new called counts =
    record {
      calls = ap (λ (s : MemoryState). s.calls) counts ∙ called.calls;
      reopened = ap (λ (s : MemoryState). s.reopened) counts ∙ called.reopened;
      stop = ap (λ (s : MemoryState). s.stop) counts ∙ called.stop;
      failing = ap (λ (s : MemoryState). s.failing) counts ∙ called.failing;
    }

module _ (request : Request) (old mid new : MemoryState) (faults : mid.faults ≡ old.faults)
    (tries : mid.tries ≡ old.tries) (later : mid.faults ≤ new.faults) where
  no_fewer : old.faults ≤ new.faults
  no_fewer = subst (λ n. n ≤ new.faults) faults later

  gone_as : (made : Result Bool AllocError) → OnOk made (HasCalled request old mid)
      → IfOk made (λ done. done ≡ has_succeeded (next_outcome old)) → OnErr made (mid ≡ old)
      → HasCounted made mid new → HasGone request (answer_of made) old new
  gone_as (Ok true) called done err counts =
      let now : HasCalled request old new = called_on request (Ok true) old mid new called counts in
      record {
        done = (now, sym done);
        failed = λ is. absurd (no_error Failed is);
        same = λ is. absurd (no_error NoMemory is);
        calm = ap (λ (s : MemoryState). s.faults) counts ∙ faults;
        fault_counted = λ is. absurd (no_error Failed is);
        no_fault = λ is. absurd (no_error NoMemory is);
        faults = no_fewer;
        tries = ap (λ (s : MemoryState). s.tries) counts ∙ ap counted tries;
        continues = called_continues request old new now;
      }
  gone_as (Ok false) called done err counts =
      let now : HasCalled request old new =
      called_on request (Ok false) old mid new called counts in
      record {
        done = tt;
        failed = λ is. (now, sym done);
        same = λ is. absurd (not_both is);
        calm = tt;
        fault_counted = λ is. ap (λ (s : MemoryState). s.faults) counts ∙ ap counted faults;
        no_fault = λ is. absurd (not_both is);
        faults = no_fewer;
        tries = ap (λ (s : MemoryState). s.tries) counts ∙ ap counted tries;
        continues = called_continues request old new now;
      }
  gone_as (Err refused) called done err counts =
      record {
        done = tt;
        failed = λ is. absurd (not_both (sym is));
        same =
            λ is. record {
              now =
                  ap (λ (s : MemoryState). (memory_state s).now) counts
                  ∙ ap (λ (s : MemoryState). (memory_state s).now) err;
              past =
                  ap (λ (s : MemoryState). (memory_state s).past) counts
                  ∙ ap (λ (s : MemoryState). (memory_state s).past) err;
              calls =
                  ap (λ (s : MemoryState). (memory_state s).calls) counts
                  ∙ ap (λ (s : MemoryState). (memory_state s).calls) err;
            };
        calm = tt;
        fault_counted = λ is. absurd (not_both (sym is));
        no_fault = λ is. ap (λ (s : MemoryState). s.faults) counts ∙ faults;
        faults = no_fewer;
        tries = ap (λ (s : MemoryState). s.tries) counts ∙ ap counted tries;
        continues =
            record {
              requests = [];
              calls =
                  ap (λ (s : MemoryState). s.calls) counts ∙ ap (λ (s : MemoryState). s.calls) err
                  ∙ sym (append-nil old.calls);
              reopened =
                  ap (λ (s : MemoryState). s.reopened) counts
                  ∙ ap (λ (s : MemoryState). s.reopened) err;
              stop =
                  ap (λ (s : MemoryState). s.stop) counts ∙ ap (λ (s : MemoryState). s.stop) err;
              failing =
                  ap (λ (s : MemoryState). s.failing) counts
                  ∙ ap (λ (s : MemoryState). s.failing) err;
            };
      }

  pub has_gone : (made : Result Bool AllocError) (result : Result (Unit {0}) DiskError)
      → OnOk made (HasCalled request old mid)
      → IfOk made (λ done. done ≡ has_succeeded (next_outcome old)) → OnErr made (mid ≡ old)
      → result ≡ answer_of made → HasCounted made mid new → HasGone request result old new
  has_gone made result called done err answer counts =
      subst (λ (r : Result (Unit {0}) DiskError). HasGone request r old new) (sym answer)
      (gone_as made called done err counts)
