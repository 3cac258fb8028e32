-- What a faulty member sends, part by part.
use Rattle.std.specs.Prelude.{[], ℕ, ◌∷◌, ◌==◌, ◌++◌, Bool, List, None, Option, Some, if◌then◌else◌, true}
use Rattle.std.specs.Option.{option_map_or}
use Rattle.cw_base.specs.declared.hash.Digest32.{Digest32}
use Rattle.cw_types.specs.Block.{Block}
use Rattle.cw_types.specs.Epochs.{Epochs}
use Rattle.cw_types.specs.declared.event.Out.{Out}
use Rattle.cw_types.specs.declared.event.To.{To}
use Rattle.cw_types.specs.declared.message.Message.{Message}
use Rattle.cw_types.specs.declared.vote.Vote.TheVariants.{Finalize, Notarize}
use Rattle.cw_rules.specs.Fits.{context_for}
use Rattle.cw_rules.specs.Rules.{Rules, commit, digest, genesis, genesis_commitment}
use Rattle.cw_rules.specs.Sends.{block_sends, to_all}
use Rattle.cw_rules.specs.World.{World, voted_on}
use Rattle.shards.specs.Kept.{chunk_rules}

-- a vote on what the vote of that number is on
abbrev pub vote_on_same : Bool → World → ℕ → ℕ → List Out
vote_on_same finalizes w a number =
    option_map_or (λ p. to_all (Message.Vote a (if finalizes then Finalize p else Notarize p)) ∷ [])
    (voted_on w number) []

-- to all where it is the own one
abbrev pub goes_to : ℕ → ℕ → To
goes_to id j = if j == id then To.All else To.One j

-- the item, if there is one
abbrev pub some_of : {X : Type 0} → Option X → List X
some_of None = []
some_of (Some x) = x ∷ []

-- a block of that view over the first one
abbrev pub offered : (List ℕ → Digest32) → Epochs → ℕ → List ℕ → Block
offered hash epochs view payload =
    let r = chunk_rules hash epochs in
    record {
      context = context_for r (record {
        epoch = 0;
        view = view;
        parent = 0;
        payload = genesis_commitment r;
      }) (genesis_commitment r);
      parent = digest r (genesis r);
      height = 1;
      payload = payload;
    }

-- how it goes out by these rules, and a vote on it
abbrev pub offer : Rules → ℕ → ℕ → List ℕ → List Out
offer r a view payload =
    let b = offered r.hash r.epochs view payload in
    block_sends r.travel r a 0 b
    ++ to_all (Message.Vote a (Notarize (record {
      epoch = 0;
      view = view;
      parent = 0;
      payload = commit r b;
    }))) ∷ []
