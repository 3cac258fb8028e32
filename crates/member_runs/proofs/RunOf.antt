-- What hosts did is a run of the rules, and hands out one chain.
use Rattle.std.proofs.Common.{◌≡◌, ℕ, List, [], ◌++◌, Option, Some, option_and_then, slice_get, refl, sym, ◌∙◌, ap, subst, inl, inr, arith}
use Rattle.std.proofs.lemmas.Option.{same_Some}
use Rattle.cw_types.specs.Block.{Block}
use Rattle.cw_types.specs.declared.commitment.Commitment.{Commitment}
use Rattle.cw_types.specs.declared.event.Handed.{Handed}
use Rattle.cw_base.specs.declared.hash.Digest32.{Digest32}
use Rattle.cw_rules.specs.Chains.{Clashes, Ends, Outcome, chain_to, link_commitment, outcome}
use Rattle.cw_rules.specs.Reached.{In, IsCluster, IsLinkOf}
use Rattle.cw_rules.specs.Report.{handed_in}
use Rattle.cw_rules.specs.Rules.{Rules, digest}
use Rattle.cw_rules.specs.Step.{Member}
use Rattle.cw_rules.specs.World.{Line, World, member_at, opening, run, signed, world_of}
use Rattle.cw_rules.proofs.ClashFound.{script_clash}
use Rattle.cw_rules.proofs.Lists.{in_right}
use Rattle.cw_rules.proofs.Runs.{handed_by, handed_parts, opening_handed, script_chain}
use Rattle.member_session.specs.Serving.{Serving}
use Rattle.member_runs.specs.Hosts.{AllMay, HostCluster, Host, HostEvent, Hosts, HoldsNotes, LieOnOneChain, RunAs, OneChainOrClash, hosts_after_all, new_hosts, cluster_rules, silence}
use Rattle.member_runs.proofs.Begins.{same_opening, silent_run, still_cluster}
use Rattle.member_runs.proofs.Events.{all_follow, first_follows}
use Rattle.member_runs.proofs.Going.{handed_both, run_both}
use Rattle.member_runs.proofs.Mirrors.{Follows, IsUp, Stands, began, signed_there}

module _ (c : HostCluster) (hosts : Hosts) (lines : List Line) (w : World)
    (follows : Follows c hosts lines w) where
  abbrev script_of : List Line
  script_of = silence c.faulty ++ lines

  opens : opening (cluster_rules c) (silence c.faulty ++ lines) ≡ began c
  opens = same_opening (cluster_rules c) (silence c.faulty) lines follows.quiet

  world_is : world_of (cluster_rules c) (silence c.faulty ++ lines) ≡ w
  world_is =
      ap (λ (v : World). run (cluster_rules c) v (silence c.faulty ++ lines)) opens
      ∙ run_both (cluster_rules c) (began c) (silence c.faulty) lines
      ∙ ap (λ (v : World). run (cluster_rules c) v lines)
      (silent_run (cluster_rules c) (silence c.faulty) c.faulty)
      ∙ follows.is

  hands_out : (x : Handed) → In x hosts.handed
      → In x (handed_in (cluster_rules c) (silence c.faulty ++ lines))
  hands_out x there =
      let r : Rules = cluster_rules c in
      let script : List Line = silence c.faulty ++ lines in
      subst (λ (l : List Handed). In x l) (sym (handed_parts r script))
      (in_right x (opening_handed r script) (handed_by r (opening r script) script)
      (subst (λ (v : World). In x (handed_by r v script)) (sym opens)
      (subst (λ (l : List Handed). In x l)
      (sym (handed_both r (began c) (silence c.faulty) lines))
      (in_right x (handed_by r (began c) (silence c.faulty))
      (handed_by r (run r (began c) (silence c.faulty)) lines)
      (subst (λ (v : World). In x (handed_by r v lines))
      (sym (silent_run r (silence c.faulty) c.faulty)) (follows.hands x there))))))

  holds : (i : ℕ) (h : Host) (s : Serving) → slice_get hosts.members i ≡ Some (Some h)
      → h.serving ≡ Some s → HoldsNotes (cluster_rules c) (silence c.faulty ++ lines) i s
  holds i h s there works =
      let m = follows.members i h there in
      let up : IsUp c i h.file m.member s =
      subst (λ (o : Option Serving). Stands c w i h.file m.member o) works m.stands in (
        m.member,
        ap (λ (v : World). member_at v i) world_is
            ∙ ap (λ (o : Option (Option Member)). option_and_then (λ (x : Option Member). x) o) m.at,
        ap (λ (x : Member). x.frames) up.same
            ∙ sym (ap (λ (x : Serving). x.member.frames) up.who),
      )

  pub is_run : IsCluster (cluster_rules c) (silence c.faulty)
      → RunAs c hosts (silence c.faulty ++ lines)
  is_run cluster = record {
    cluster = still_cluster (cluster_rules c) (silence c.faulty) lines follows.quiet cluster;
    notes = holds;
    votes =
        λ i v h. ap (λ (x : World). signed x i v) world_is
        ∙ signed_there c hosts lines w follows i v h;
    handed = hands_out;
  }

-- hosts that may do what they do make a run
pub hosts_run : (c : HostCluster) (events : List HostEvent) → IsCluster (cluster_rules c) (silence c.faulty)
    → AllMay c (new_hosts c) events
    → (script : List Line) × RunAs c (hosts_after_all c (new_hosts c) events) script
hosts_run c events cluster may =
    let all = all_follow c events (new_hosts c) [] (began c) (first_follows c) may in (
      silence c.faulty ++ all.0,
      is_run c (hosts_after_all c (new_hosts c) events) all.0 all.1 all.2 cluster,
    )

-- ---- one chain

same_handed : (x y : Handed) → x.height ≡ y.height → x.commitment ≡ y.commitment
    → x.digest ≡ y.digest → x ≡ y
same_handed x y height commitment named =
    ap (λ (n : ℕ). record { height = n; commitment = x.commitment; digest = x.digest }) height
    ∙ ap (λ (k : Commitment). record { height = y.height; commitment = k; digest = x.digest })
    commitment
    ∙ ap (λ (d : Digest32). record { height = y.height; commitment = y.commitment; digest = d })
    named

same_links : (r : Rules) (links : List Block) (x y : Handed) → IsLinkOf r links x
    → IsLinkOf r links y → x.height ≡ y.height → x ≡ y
same_links r links x y one two height =
    let link : one.link ≡ two.link =
    same_Some one.link two.link
    (sym one.there ∙ ap (λ (n : ℕ). slice_get links n) height ∙ two.there) in
    same_handed x y height
    (one.same_commitment ∙ ap (λ (b : Block). link_commitment r b) link ∙ sym two.same_commitment)
    (one.same_digest ∙ ap (λ (b : Block). digest r b) link ∙ sym two.same_digest)

one_chain : (r : Rules) (script : List Line) (w : World) (handed : List Handed)
    → IsCluster r script → outcome r (opening r script) script ≡ Ends w
    → ((x : Handed) → In x handed → In x (handed_in r script)) → LieOnOneChain r w handed
one_chain r script w handed cluster ends among =
    record {
      chain = λ x there.
          let up = script_chain r script w cluster ends x (among x there) in
          record {
            block = up.block;
            under = up.under;
            height = up.height;
            chain = up.chain;
            links = λ y other low. up.links y (among y other) low;
          };
      one = λ x y first second height.
          let up = script_chain r script w cluster ends x (among x first) in
          same_links r (chain_to r w up.block) x y
          (up.links x (among x first) (omega arith))
          (up.links y (among y second) (omega (arith, height))) height;
    }

chain_or_clash : (c : HostCluster) (hosts : Hosts) (script : List Line) → RunAs c hosts script
    → OneChainOrClash (cluster_rules c) script hosts.handed
chain_or_clash c hosts script is =
    go (outcome (cluster_rules c) (opening (cluster_rules c) script) script) refl
  where
    go : (o : Outcome) → outcome (cluster_rules c) (opening (cluster_rules c) script) script ≡ o
        → OneChainOrClash (cluster_rules c) script hosts.handed
    go (Ends w) ends =
        inl (w, ends, one_chain (cluster_rules c) script w hosts.handed is.cluster ends is.handed)
    go (Clashes earlier later) ends =
        let found = script_clash (cluster_rules c) script earlier later ends in
        inr (found.0, earlier, later, found.1, found.2)

pub hosts_chain : (c : HostCluster) (events : List HostEvent)
    → IsCluster (cluster_rules c) (silence c.faulty) → AllMay c (new_hosts c) events
    → (script : List Line) × RunAs c (hosts_after_all c (new_hosts c) events) script
    × OneChainOrClash (cluster_rules c) script (hosts_after_all c (new_hosts c) events).handed
hosts_chain c events cluster may =
    let is = hosts_run c events cluster may in
    (is.0, is.1, chain_or_clash c (hosts_after_all c (new_hosts c) events) is.0 is.1)
