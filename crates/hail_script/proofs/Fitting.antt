-- What the lines of a script that is run bring in can be written.
use Rattle.std.proofs.Common.{◌≡◌, ℕ, ◌+◌, ◌*◌, ◌^◌, ◌<◌, ◌≤◌, ◌==◌, ◌&&◌, Bool, true, false, nat_le, nat_lt, List, [], ◌∷◌, length, drop, map, Option, Some, None, Result, Ok, Err, refl, ap, subst, arith, ltb-true}
use Rattle.std.specs.Prelude.{bytes_eq, codes, if◌then◌else◌, option_map}
use Rattle.std.specs.List.{AllByRecursion, list_all}
use Rattle.std.specs.Char.{is_ascii_digit}
use Rattle.std.specs.Str.Parse.{digits_value}
use Rattle.std.proofs.lemmas.Bool.Decides.{nat_tests}
use Rattle.hex.specs.Hex.{decode_of, decode_pairs, pair_value, value_at, ◌>>=◌}
use Rattle.hex.specs.declared.error.FromHexError.{FromHexError}
use Rattle.hex.specs.declared.error.FromHexError.TheVariants.{OddLength}
use Rattle.cw_types.specs.Epochs.{Epochs, single}
use Rattle.cw_rules.specs.Coding.{AreBytes}
use Rattle.cw_rules.specs.Telling.{FitsLine}
use Rattle.cw_rules.specs.World.{Ask, Cut, Do, Fault, Faulty, Finalize_of, Line, Notarize_of, Nullify_of, Offer, Raw, Restart, Silent}
use Rattle.cw_rules.specs.World as rule
use Rattle.cw_rules.specs.declared.travel.Travel.{Travel}
use Rattle.cw_rules.specs.declared.travel.Travel.TheVariants.{Chunked}
use Rattle.hail_script.specs.declared.error.RunError.{RunError}
use Rattle.hail_script.specs.declared.error.RunError.TheVariants as error
use Rattle.hail_script.specs.declared.headers.Header.{Header}
use Rattle.hail_script.specs.declared.headers.Header.TheVariants.{Cluster, Several}
use Rattle.hail_script.specs.Grammar as grammar
use Rattle.hail_script.specs.Headers.{header_by, lists_in}
use Rattle.hail_script.specs.Lanes.{Laned, head_in, laned_by, laned_of, others_in, sizes_in, told}
use Rattle.hail_script.specs.Lines as lines
use Rattle.hail_script.specs.Lines.{asking, event_in}
use Rattle.hail_script.specs.Pieces.{bytes_in, fields, number, ok}
use Rattle.hail_script.specs.Pieces as pieces
use Rattle.hail_script.specs.Scenario.{Scenario}

-- ---- hexadecimal digits give bytes

abbrev LowIn : Result ℕ FromHexError → Type 0
LowIn (Ok v) = v < 16
LowIn (Err e) = Unit {0}

abbrev ByteIn : Result ℕ FromHexError → Type 0
ByteIn (Ok b) = b < 256
ByteIn (Err e) = Unit {0}

abbrev BytesIn : Result (List ℕ) FromHexError → Type 0
BytesIn (Ok bytes) = AreBytes bytes
BytesIn (Err e) = Unit {0}

value_low : (c i : ℕ) → LowIn (value_at c i)
value_low c i =
    go (nat_le 65 c && nat_le c 70) (nat_le 97 c && nat_le c 102) (nat_le 48 c && nat_le c 57) refl
    refl refl
  where
    go : (p q s : Bool) → (nat_le 65 c && nat_le c 70) ≡ p → (nat_le 97 c && nat_le c 102) ≡ q
        → (nat_le 48 c && nat_le c 57) ≡ s → LowIn (value_at c i)
    go true q s a b d = rw a (grind (arith, nat_tests))
    go false true s a b d = rw (a, b) (grind (arith, nat_tests))
    go false false true a b d = rw (a, b, d) (grind (arith, nat_tests))
    go false false false a b d = rw (a, b, d) tt

both_low : (p q : Result ℕ FromHexError) → LowIn p → LowIn q
    → ByteIn (p >>= (λ h. q >>= (λ l. Ok (h * 16 + l))))
both_low (Ok h) (Ok l) a b = omega (arith, a, b)
both_low (Ok h) (Err e) a b = tt
both_low (Err e) q a b = tt

both_bytes : (p : Result ℕ FromHexError) (q : Result (List ℕ) FromHexError) → ByteIn p → BytesIn q
    → BytesIn (p >>= (λ b. q >>= (λ bs. Ok (b ∷ bs))))
both_bytes (Ok b) (Ok bs) h k = (h, k)
both_bytes (Ok b) (Err e) h k = tt
both_bytes (Err e) q h k = tt

pairs_bytes : (i : ℕ) (text : List ℕ) → BytesIn (decode_pairs i text)
unfolding decode_pairs
pairs_bytes i [] = tt
pairs_bytes i (digit ∷ []) = tt
pairs_bytes i (high ∷ low ∷ rest) =
    both_bytes (pair_value high low i) (decode_pairs (i + 2) rest)
    (both_low (value_at high i) (value_at low (i + 1)) (value_low high i)
    (value_low low (i + 1)))
    (pairs_bytes (i + 2) rest)

if_bytes : (t : Bool) (a b : Result (List ℕ) FromHexError) → BytesIn a → BytesIn b
    → BytesIn (if t then a else b)
if_bytes true a b h k = h
if_bytes false a b h k = k

abbrev SomeBytes : Option (List ℕ) → Type 0
SomeBytes None = Unit {0}
SomeBytes (Some bytes) = AreBytes bytes

ok_bytes : (r : Result (List ℕ) FromHexError) → BytesIn r → SomeBytes (ok r)
ok_bytes (Ok bytes) h = h
ok_bytes (Err e) h = tt

if_some : (t : Bool) (a b : Option (List ℕ)) → SomeBytes a → SomeBytes b
    → SomeBytes (if t then a else b)
if_some true a b h k = h
if_some false a b h k = k

field_bytes : (field : List ℕ) → SomeBytes (bytes_in field)
unfolding bytes_in
field_bytes field =
    if_some (bytes_eq field (codes "-")) (Some [])
    (if length field == 0 then None else ok (decode_of field)) tt
    (if_some (length field == 0) None (ok (decode_of field)) tt
    (ok_bytes (decode_of field)
    (if_bytes _ (Err OddLength) (decode_pairs 0 field) tt (pairs_bytes 0 field))))

-- ---- raw lines hold bytes, and offers a view of eight bytes

-- a number that is read is below 2^64
number_below : (field : List ℕ) (n : ℕ) → number field ≡ Some n → n < 2 ^ 64
unfolding number
number_below field n h =
    go (nat_lt 0 (length field)) (list_all is_ascii_digit field) h
  where
    value : ℕ
    value = digits_value 10 field

    small : (t : Bool) → nat_lt value (2 ^ 64) ≡ t → (if t then Some value else None) ≡ Some n
        → n < 2 ^ 64
    small true e k =
        let same : value ≡ n = cc in
        subst (λ x. x < 2 ^ 64) same (ltb-true value (2 ^ 64) e)
    small false e k = cc

    go : (a b : Bool)
        → (if a && (b && nat_lt value (2 ^ 64)) then Some value else None) ≡ Some n → n < 2 ^ 64
    go true true k = small (nat_lt value (2 ^ 64)) refl k
    go true false k = cc
    go false b k = cc

abbrev IsRaw : Line → Type 0
IsRaw (Faulty i (Raw bytes)) = AreBytes bytes
IsRaw (Faulty i (Offer view payload)) = view < 2 ^ 64
IsRaw _ = Unit {0}

abbrev RawFault : Option Fault → Type 0
RawFault (Some (Raw bytes)) = AreBytes bytes
RawFault (Some (Offer view payload)) = view < 2 ^ 64
RawFault _ = Unit {0}

abbrev RawLine : Option Line → Type 0
RawLine None = Unit {0}
RawLine (Some line) = IsRaw line

if_fault : (t : Bool) (a b : Option Fault) → RawFault a → RawFault b → RawFault (if t then a else b)
if_fault true a b h k = h
if_fault false a b h k = k

if_line : (t : Bool) (a b : Option Line) → RawLine a → RawLine b → RawLine (if t then a else b)
if_line true a b h k = h
if_line false a b h k = k

numbered : (f : ℕ → Fault) → ((n : ℕ) → RawFault (Some (f n))) → (o : Option ℕ)
    → RawFault (option_map f o)
numbered f h None = tt
numbered f h (Some n) = h n

raw_fault : (o : Option (List ℕ)) → SomeBytes o → RawFault (option_map Raw o)
raw_fault None h = tt
raw_fault (Some bytes) h = h

offered : (o : Option ℕ) (p : Option (List ℕ)) → ((n : ℕ) → o ≡ Some n → n < 2 ^ 64)
    → RawFault (lines.offering o p)
offered None p below = tt
offered (Some view) None below = tt
offered (Some view) (Some payload) below = below view refl

fault_raw : (parts : List (List ℕ)) → RawFault (lines.fault_in parts)
fault_raw [] = tt
fault_raw (word ∷ []) = if_fault (bytes_eq word (codes "silent")) (Some Silent) None tt tt
fault_raw (word ∷ field ∷ []) =
    if_fault (bytes_eq word (codes "notarize")) _ _ (numbered Notarize_of (λ n. tt) (number field))
    (if_fault (bytes_eq word (codes "finalize")) _ _ (numbered Finalize_of (λ n. tt) (number field))
    (if_fault (bytes_eq word (codes "nullify")) _ _ (numbered Nullify_of (λ n. tt) (number field))
    (if_fault (bytes_eq word (codes "raw")) _ None (raw_fault (bytes_in field) (field_bytes field))
    tt)))
fault_raw (word ∷ view ∷ payload ∷ []) =
    if_fault (bytes_eq word (codes "offer")) (lines.offering (number view) (bytes_in payload)) None
    (offered (number view) (bytes_in payload) (number_below view)) tt
fault_raw (a ∷ b ∷ c ∷ d ∷ more) = tt

faulting_raw : (member : Option ℕ) (fault : Option Fault) → RawFault fault
    → RawLine (lines.faulting member fault)
faulting_raw None fault h = tt
faulting_raw (Some member) None h = tt
faulting_raw (Some member) (Some (Raw bytes)) h = h
faulting_raw (Some member) (Some Silent) h = tt
faulting_raw (Some member) (Some (Offer view payload)) h = h
faulting_raw (Some member) (Some (Notarize_of n)) h = tt
faulting_raw (Some member) (Some (Finalize_of n)) h = tt
faulting_raw (Some member) (Some (Nullify_of n)) h = tt

faulty_raw : (parts : List (List ℕ)) → RawLine (lines.faulty_in parts)
faulty_raw [] = tt
faulty_raw (member ∷ fault) = faulting_raw (number member) (lines.fault_in fault) (fault_raw fault)

cutting_raw : (call cut fill : Option ℕ) (asked : Option (ℕ × Ask))
    → RawLine (lines.cutting call cut fill asked)
cutting_raw None cut fill asked = tt
cutting_raw (Some call) None fill asked = tt
cutting_raw (Some call) (Some cut) None asked = tt
cutting_raw (Some call) (Some cut) (Some fill) None = tt
cutting_raw (Some call) (Some cut) (Some fill) (Some asked) =
    if_line (nat_lt 0 call && nat_lt fill 256) (Some (Cut call cut fill asked.0 asked.1)) None tt tt

cut_raw : (parts : List (List ℕ)) → RawLine (lines.cut_in parts)
cut_raw [] = tt
cut_raw (a ∷ []) = tt
cut_raw (a ∷ b ∷ []) = tt
cut_raw (call ∷ cut ∷ fill ∷ asked) =
    cutting_raw (number call) (number cut) (number fill) (lines.asked_in asked)

restart_raw : (parts : List (List ℕ)) → RawLine (lines.restart_in parts)
restart_raw [] = tt
restart_raw (member ∷ []) = go (number member)
  where
    go : (o : Option ℕ) → RawLine (option_map Restart o)
    go None = tt
    go (Some n) = tt
restart_raw (a ∷ b ∷ more) = tt

do_raw : (o : Option (ℕ × Ask)) → RawLine (option_map (λ asked. Do asked.0 asked.1) o)
do_raw None = tt
do_raw (Some asked) = tt

event_raw : (parts : List (List ℕ)) → RawLine (event_in parts)
event_raw [] = tt
event_raw (word ∷ rest) =
    if_line (bytes_eq word (codes "cut")) (lines.cut_in rest) _ (cut_raw rest)
    (if_line (bytes_eq word (codes "restart")) (lines.restart_in rest) _ (restart_raw rest)
    (if_line (bytes_eq word (codes "faulty")) (lines.faulty_in rest) _ (faulty_raw rest)
    (do_raw (lines.asked_in (word ∷ rest)))))

abbrev RawLines : Result (List Line) RunError → Type 0
RawLines (Ok events) = AllByRecursion IsRaw events
RawLines (Err e) = Unit {0}

with_raw : (o : Option Line) (at : ℕ) (rest : Result (List Line) RunError) → RawLine o
    → RawLines rest → RawLines (grammar.with_event o at rest)
with_raw None at rest h k = tt
with_raw (Some event) at (Ok events) h k = (h, k)
with_raw (Some event) at (Err e) h k = tt

events_raw : (at : ℕ) (ls : List (List ℕ)) → RawLines (grammar.events_from at ls)
events_raw at [] = tt
events_raw at (l ∷ ls) =
    with_raw (event_in (fields l)) at (grammar.events_from (at + 1) ls) (event_raw (fields l))
    (events_raw (at + 1) ls)

abbrev RawScript : Result Scenario RunError → Type 0
RawScript (Ok s) = AllByRecursion IsRaw s.lines
RawScript (Err e) = Unit {0}

scenario_raw : (travel : Travel) (x : Epochs) (backlog : ℕ)
    (events : Result (List Line) RunError)
    → RawLines events → RawScript (grammar.scenario_of travel x backlog events)
scenario_raw travel x backlog (Ok events) h = h
scenario_raw travel x backlog (Err e) h = tt

behind_raw : (travel : Travel) (members backlog span count : ℕ) (more : List (List ℕ))
    (lists : Result (List (List ℕ)) RunError)
    → RawScript (grammar.behind_lists travel members backlog span count more lists)
behind_raw travel members backlog span count more (Ok lists) =
    scenario_raw travel _ backlog (grammar.events_from (2 + count) (drop count more))
    (events_raw (2 + count) (drop count more))
behind_raw travel members backlog span count more (Err e) = tt

header_raw : (travel : Travel) (o : Option Header) (more : List (List ℕ))
    → RawScript (grammar.behind_header travel o more)
header_raw travel None more = tt
header_raw travel (Some (Cluster members backlog)) more =
    scenario_raw travel (single members) backlog (grammar.events_from 2 more) (events_raw 2 more)
header_raw travel (Some (Several members backlog span count)) more =
    behind_raw travel members backlog span count more (lists_in count more)

spelled_raw : (travel : Travel) (ls : List (List ℕ)) → RawScript (grammar.spelled_in travel ls)
spelled_raw travel [] = tt
spelled_raw travel (first ∷ more) = header_raw travel (header_by travel (fields first)) more

-- ---- payloads are short

short_of : (payload : List ℕ) → grammar.is_oversize payload ≡ false → length payload ≤ 1048576
short_of payload h = grind (arith, nat_tests)

ask_fits : (ask : Ask) → grammar.asks_oversize ask ≡ false → (i : ℕ) → FitsLine (Do i ask)
ask_fits (rule.Propose payload) h i = short_of payload h
ask_fits (rule.Timeout view) h i = tt
ask_fits (rule.Deliver number) h i = tt
ask_fits rule.Ack h i = tt
ask_fits (rule.Prune height) h i = tt
ask_fits (rule.Floor number) h i = tt
ask_fits (rule.Hint height) h i = tt

line_fits : (line : Line) → grammar.names_oversize line ≡ false → IsRaw line → FitsLine line
line_fits (Do i ask) h raw = ask_fits ask h i
line_fits (Cut call cut fill i ask) h raw = ask_fits ask h i
line_fits (Restart i) h raw = tt
line_fits (Faulty i Silent) h raw = tt
line_fits (Faulty i (Offer view payload)) h raw = (raw, short_of payload h)
line_fits (Faulty i (Notarize_of n)) h raw = tt
line_fits (Faulty i (Finalize_of n)) h raw = tt
line_fits (Faulty i (Nullify_of n)) h raw = tt
line_fits (Faulty i (Raw bytes)) h raw = raw

lines_fit : (at : ℕ) (ls : List Line) → grammar.first_at grammar.names_oversize at ls ≡ None
    → AllByRecursion IsRaw ls → AllByRecursion FitsLine ls
lines_fit at [] h raw = tt
lines_fit at (line ∷ ls) h raw =
    go (grammar.names_oversize line) refl (λ none. lines_fit (at + 1) ls none raw.1)
  where
    go : (t : Bool) → grammar.names_oversize line ≡ t
        → (grammar.first_at grammar.names_oversize (at + 1) ls ≡ None → AllByRecursion FitsLine ls)
        → AllByRecursion FitsLine (line ∷ ls)
    go true e more = absurd (let no : Some at ≡ None = rw e at h in cc)
    go false e more = (line_fits line e raw.0, more (rw e at h))

-- ---- a script that is run

if_run : (t : Bool) (e : RunError) (rest : Result Scenario RunError) (s : Scenario)
    → (let r : Result Scenario RunError = if t then Err e else rest in r) ≡ Ok s → rest ≡ Ok s
if_run true e rest s h = absurd (let no : Err e ≡ Ok s = h in cc)
if_run false e rest s h = h

none_refused : (cause : ℕ → RunError) (o : Option ℕ) (rest : Result Scenario RunError)
    (s : Scenario)
    → grammar.refused_at cause o rest ≡ Ok s → (o ≡ None) × (rest ≡ Ok s)
none_refused cause None rest s h = (refl, h)
none_refused cause (Some at) rest s h = absurd (let no : Err (cause at) ≡ Ok s = h in cc)

ok_same : (s t : Scenario) → (let r : Result Scenario RunError = Ok s in r) ≡ Ok t → s ≡ t
ok_same s t h = cc

-- a script that is run is the one that was spelled, and no line has too long a payload
pub admitted_parts : (s t : Scenario) → grammar.admitted s ≡ Ok t
    → (s ≡ t) × (grammar.oversize_at s ≡ None)
admitted_parts s t h =
    let sized = if_run _ error.BadCommittee _ t h in
    let known = none_refused error.UnknownMember (grammar.unknown_at s) _ t sized in
    let few = if_run _ error.TooManyFaulty _ t known.1 in
    let short = none_refused error.OversizeBlock (grammar.oversize_at s) (Ok s) t few in
    (ok_same s t short.1, short.0)

admitted_fits : (s t : Scenario) → grammar.admitted s ≡ Ok t → AllByRecursion IsRaw s.lines
    → AllByRecursion FitsLine t.lines
admitted_fits s t h raw =
    let parts = admitted_parts s t h in
    subst (λ (x : Scenario). AllByRecursion FitsLine x.lines) parts.0
    (lines_fit (grammar.first_event s.committees) s.lines parts.1 raw)

all_fit : (r : Result Scenario RunError) (t : Scenario) → grammar.if_admitted r ≡ Ok t → RawScript r
    → AllByRecursion FitsLine t.lines
all_fit (Ok s) t h raw = admitted_fits s t h raw
all_fit (Err e) t h raw = absurd (let no : Err e ≡ Ok t = h in cc)

pub fits : (travel : Travel) (text : List ℕ) (s : Scenario) → grammar.script_by travel text ≡ Ok s
    → AllByRecursion FitsLine s.lines
fits travel text s h =
    all_fit (grammar.spelled travel text) s h (spelled_raw travel (pieces.lines text))

-- ---- a script with lanes

pub of_script : (head : ℕ) (numbers sizes : List ℕ) (r : Result Scenario RunError) (x : Laned)
    → laned_by head numbers sizes r ≡ Ok x → r ≡ Ok x.script
of_script head numbers sizes (Ok s) x h =
    let same : record { script = s; numbers = drop head numbers; sizes = sizes } ≡ x = cc in
    ap (λ (y : Laned). let r : Result Scenario RunError = Ok y.script in r) same
of_script head numbers sizes (Err e) x h =
    absurd (let no : Err (told numbers e) ≡ Ok x = h in cc)

pub laned_fits : (text : List ℕ) (x : Laned) → laned_of text ≡ Ok x
    → AllByRecursion FitsLine x.script.lines
laned_fits text x h =
    let rows = others_in (pieces.lines text) in
    let plain = map (λ (row : ℕ × List ℕ). row.1) rows in
    all_fit (grammar.spelled_in Chunked plain) x.script
    (of_script (head_in (pieces.lines text)) (map (λ (row : ℕ × List ℕ). row.0) rows)
    (sizes_in (pieces.lines text)) (grammar.if_admitted (grammar.spelled_in Chunked plain)) x h)
    (spelled_raw Chunked plain)
