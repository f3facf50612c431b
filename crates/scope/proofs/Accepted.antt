-- What an accepted section keeps: a scan that ends without a fault met none at any number, and a fault that is none is a
-- list of rules that are all kept. `blank` keeps every rule too, so each rule holds at every number, with no bound to carry.
-- `Passes` is what the order of heap types needs of that.
use Rattle.scope.specs.declared.Place.{Place}
use Prim.Native.Nat.{ℕ, zero, suc, ◌+◌, ◌<◌, ◌≤◌}
use native.Mathlib.Omega.{arith}
use mathlib.Core.Path.{◌≡◌, refl, sym, subst}
use mathlib.Core.Logic.{◌⊎◌, inl, inr}
use mathlib.Core.Bool.{Bool, true, false, cond, false≢true}
use mathlib.Core.Option.{Option, none, some}
use mathlib.Core.List.{List, [], ◌∷◌, ◌++◌}
use lib.ListN.{length, get_or-eq_default}
use lib.Dec.{ltb}
use borrow.Author.Tests.{ltb-true, ltb-false}
use Rattle.scope.specs.Sizes.{most_steps}
use Rattle.scope.specs.Reading.{Read, got, refused, given}
use Rattle.scope.specs.Lists.{joined}
use Rattle.scope.specs.Syntax.{Form, struct, func, Definition, Group, Types, blank, types_of, first_of, super_of}
use Rattle.scope.specs.Order.{kind_of}
use Rattle.scope.specs.TypeRules.{names, in_reach, one_super, super_earlier_and_open, short_chain, form_matches, matches_super, clauses_on_struct, describes_earlier, clauses_agree, descriptor_follows, describes_follows}
use Rattle.scope.specs.Judging.{Judged, accepted, rejected, and_then, links_fault, rule_fault, scan, judge_types, judge_read, judge_library, Joined, judge_more, judge_joined, judge_sections, in_library, plain}
use Rattle.scope.specs.Sections.{read_after}
use Rattle.scope.proofs.Truths.{none_is_not-some, decided, from_both}
use Rattle.scope.proofs.Impossible.{contradiction}

-- A rejection is no acceptance

rejected_is_not_accepted : {A : Type 0} {n : ℕ} {p : Place} {x : A} → rejected n p ≡ accepted x → ⊥
rejected_is_not_accepted e = contradiction cc

-- The scan

pub scan_met_none : (fault : ℕ → Option ℕ) (x n : ℕ) {m : ℕ} → scan fault x n ≡ accepted m → (y : ℕ) → x ≤ y → y < x + n → fault y ≡ none
unfolding scan
scan_met_none fault x zero e y from to = absurd (omega arith)
scan_met_none fault x (suc n) {m} e y from to = go (fault x) refl e (decided (ltb x y)) (λ f. scan_met_none fault (x + 1) n f y)
  where
    go : (o : Option ℕ) → fault x ≡ o
        → given o (scan fault (x + 1) n) (λ number. rejected number (plain x)) ≡ accepted m
        → (ltb x y ≡ true) ⊎ (ltb x y ≡ false)
        → (scan fault (x + 1) n ≡ accepted m → x + 1 ≤ y → y < x + 1 + n → fault y ≡ none)
        → fault y ≡ none
    go (some k) p f side later = absurd (rejected_is_not_accepted f)
    go none p f (inl after) later = later f (omega (arith, ltb-true)) (omega arith)
    go none p f (inr before) later = let q : y ≡ x = omega (arith, ltb-false) in rw q p

then_accepted : {A B : Type 0} (j : Judged A) (f : A → Judged B) {y : B} → and_then j f ≡ accepted y → (x : A) × (j ≡ accepted x) × (f x ≡ accepted y)
then_accepted (accepted x) f e = (x, refl, e)
then_accepted (rejected n p) f e = absurd (rejected_is_not_accepted e)

pub judged-no_fault : (ts : Types) (n : ℕ) {m : ℕ} → judge_types ts n ≡ accepted m → (x : ℕ) → x < n → (links_fault ts x ≡ none) × (rule_fault ts x ≡ none)
unfolding judge_types
judged-no_fault ts n e x below =
    let (end, links, rules) = then_accepted (scan (links_fault ts) 0 n) (λ all. scan (rule_fault ts) 0 n) e in
    let no-links = scan_met_none (links_fault ts) 0 n links x (omega arith) (omega arith) in
    let no_rule = scan_met_none (rule_fault ts) 0 n rules x (omega arith) (omega arith) in
    (no-links, no_rule)

-- The rules

kept-first : (rule : Bool) (number : ℕ) (later : Option ℕ) → cond rule later (some number) ≡ none → (rule ≡ true) × (later ≡ none)
kept-first true number later e = (refl, e)
kept-first false number later e = absurd (none_is_not-some (sym e))

-- refusals 6, 7 and the chain's 4
pub record LinksKept (ts : Types) (x : ℕ) : Type 0 where
  pub reach : in_reach ts x ≡ true
  pub super : super_earlier_and_open ts x ≡ true
  pub short : short_chain most_steps ts x ≡ true

-- refusals 8 to 13
pub record RulesKept (ts : Types) (x : ℕ) : Type 0 where
  pub matches : matches_super ts x ≡ true
  pub on_struct : clauses_on_struct ts x ≡ true
  pub describes_before : describes_earlier ts x ≡ true
  pub agree : clauses_agree ts x ≡ true
  pub descriptors : descriptor_follows ts x ≡ true
  pub described : describes_follows ts x ≡ true

pub links_kept : (ts : Types) (x : ℕ) → links_fault ts x ≡ none → LinksKept ts x
unfolding links_fault
links_kept ts x e =
    let (a, after-a) = kept-first (in_reach ts x) _ _ e in
    let (b, after-b) = kept-first (super_earlier_and_open ts x) _ _ after-a in
    let (c, after-c) = kept-first (short_chain most_steps ts x) _ _ after-b in
    record { reach = a; super = b; short = c }

pub rules-kept : (ts : Types) (x : ℕ) → rule_fault ts x ≡ none → RulesKept ts x
unfolding rule_fault
rules-kept ts x e =
    let (a, after-a) = kept-first (matches_super ts x) _ _ e in
    let (b, after-b) = kept-first (clauses_on_struct ts x) _ _ after-a in
    let (c, after-c) = kept-first (describes_earlier ts x) _ _ after-b in
    let (d, after-d) = kept-first (clauses_agree ts x) _ _ after-c in
    let (f, after-f) = kept-first (descriptor_follows ts x) _ _ after-d in
    let (g, after-g) = kept-first (describes_follows ts x) _ _ after-f in
    record { matches = a; on_struct = b; describes_before = c; agree = d; descriptors = f; described = g }

-- Past the end of the table

pub blank-no_fault : (ts : Types) (x : ℕ) → ts x ≡ blank → (links_fault ts x ≡ none) × (rule_fault ts x ≡ none)
unfolding links_fault rule_fault names in_reach super_earlier_and_open short_chain matches_super clauses_on_struct describes_earlier clauses_agree descriptor_follows describes_follows
blank-no_fault ts x e = rw e (refl, refl)

-- Every rule at every number

pub record Kept (ts : Types) : Type 0 where
  pub links : (x : ℕ) → LinksKept ts x
  pub rules : (x : ℕ) → RulesKept ts x

module _ (ds : List Definition) {n : ℕ} (e : judge_types (types_of ds) (length ds) ≡ accepted n) where
  no_fault : (x : ℕ) → (links_fault (types_of ds) x ≡ none) × (rule_fault (types_of ds) x ≡ none)
  no_fault x = go (decided (ltb x (length ds)))
    where
      go : (ltb x (length ds) ≡ true) ⊎ (ltb x (length ds) ≡ false) → (links_fault (types_of ds) x ≡ none) × (rule_fault (types_of ds) x ≡ none)
      go (inl inside) = judged-no_fault (types_of ds) (length ds) e x (ltb-true _ _ inside)
      go (inr past) = blank-no_fault (types_of ds) x (get_or-eq_default ds blank (ltb-false _ _ past))

  pub judged-kept : Kept (types_of ds)
  judged-kept = record { links = λ x. links_kept (types_of ds) x (no_fault x).0; rules = λ x. rules-kept (types_of ds) x (no_fault x).1 }

-- the rules were asked of the joined list
pub more_judged : (ls : List Definition) (r : Read (List Group)) {j : Joined} → judge_more ls r ≡ accepted j
    → (n : ℕ) × (judge_types (types_of j.types) (length j.types) ≡ accepted n)
more_judged ls (refused n p) f = absurd (rejected_is_not_accepted f)
more_judged ls (got gs end) {j} f =
    let ds : List Definition = ls ++ joined gs in
    let (n, judged, same) = then_accepted (judge_types (types_of ds) (length ds)) (λ all. accepted (record { before = length ls; types = ds })) f in
    let q : record { before = length ls; types = ds } ≡ j = cc in
    (n, subst (λ (k : Joined). judge_types (types_of k.types) (length k.types) ≡ accepted n) q judged)

pub joined-judged : (library addon : List ℕ) {j : Joined} → judge_joined library addon ≡ accepted j → (n : ℕ) × (judge_types (types_of j.types) (length j.types) ≡ accepted n)
unfolding judge_joined
joined-judged library addon e =
    let (ls, judged, more) = then_accepted (judge_library library) (λ ls. judge_more ls (read_after (length ls) addon)) e in
    more_judged ls (read_after (length ls) addon) more

pub accepted_kept : (library addon : List ℕ) {j : Joined} → judge_joined library addon ≡ accepted j → Kept (types_of j.types)
accepted_kept library addon {j} e = judged-kept j.types (joined-judged library addon e).1

-- of the types alone

pub sections_joined : (library addon : List ℕ) {ds : List Definition} → judge_sections library addon ≡ accepted ds → (j : Joined) × (judge_joined library addon ≡ accepted j) × (j.types ≡ ds)
unfolding judge_sections
sections_joined library addon {ds} e =
    let (j, judged, same) = then_accepted (judge_joined library addon) (λ j. accepted j.types) e in
    let q : j.types ≡ ds = cc in
    (j, judged, q)

pub joined_sections : (library addon : List ℕ) {j : Joined} → judge_joined library addon ≡ accepted j → judge_sections library addon ≡ accepted j.types
unfolding judge_sections
joined_sections library addon e = rw e

pub sections_kept : (library addon : List ℕ) {ds : List Definition} → judge_sections library addon ≡ accepted ds → Kept (types_of ds)
sections_kept library addon {ds} e = go (sections_joined library addon e)
  where
    go : (j : Joined) × (judge_joined library addon ≡ accepted j) × (j.types ≡ ds) → Kept (types_of ds)
    go (j, judged, same) = rw (← same) (accepted_kept library addon judged)

-- An acceptance, taken apart: what was read of each section, and the verdict on the joined list

pub record JoinedParts (library section : List ℕ) (j : Joined) : Type 0 where
  pub gs : List Group
  pub more : List Group
  pub end : ℕ
  pub stop : ℕ
  pub many : ℕ
  pub read : read_after 0 library ≡ got gs end
  pub read_own : read_after (length (joined gs)) section ≡ got more stop
  pub kept : judge_types (types_of (joined gs ++ joined more)) (length (joined gs ++ joined more)) ≡ accepted many
  pub is : j ≡ record { before = length (joined gs); types = joined gs ++ joined more }

pub joined_parts : (library section : List ℕ) {j : Joined} → judge_joined library section ≡ accepted j → JoinedParts library section j
unfolding judge_joined judge_library
joined_parts library section {j} e = first (read_after 0 library) refl e
  where
    second : (gs : List Group) (end : ℕ) → read_after 0 library ≡ got gs end → (o : Read (List Group)) → read_after (length (joined gs)) section ≡ o → judge_more (joined gs) o ≡ accepted j → JoinedParts library section j
    second gs end r (refused n p) s g = absurd (rejected_is_not_accepted g)
    second gs end r (got more stop) s g =
        let ds : List Definition = joined gs ++ joined more in
        let (m, judged, same) = then_accepted (judge_types (types_of ds) (length ds)) (λ all. accepted (record { before = length (joined gs); types = ds })) g in
        let is : j ≡ record { before = length (joined gs); types = ds } = cc in
        record { gs = gs; more = more; end = end; stop = stop; many = m; read = r; read_own = s; kept = judged; is = is }

    ruled : (gs : List Group) (end : ℕ) → read_after 0 library ≡ got gs end → (o : Judged ℕ)
        → and_then (and_then o (λ all. accepted (joined gs))) (λ ls. judge_more ls (read_after (length ls) section)) ≡ accepted j → JoinedParts library section j
    ruled gs end r (rejected n p) g = absurd (rejected_is_not_accepted g)
    ruled gs end r (accepted m) g = second gs end r (read_after (length (joined gs)) section) refl g

    first : (o : Read (List Group)) → read_after 0 library ≡ o → and_then (judge_read in_library o) (λ ls. judge_more ls (read_after (length ls) section)) ≡ accepted j → JoinedParts library section j
    first (refused n p) r g = absurd (rejected_is_not_accepted g)
    first (got gs end) r g = ruled gs end r (judge_types (types_of (joined gs)) (length (joined gs))) g

-- the verdict by what was read of the library

pub joined-first : (library addon : List ℕ) {n p : ℕ} → read_after 0 library ≡ refused n p → judge_joined library addon ≡ rejected n (in_library p)
unfolding judge_joined judge_library
joined-first library addon e = rw e

pub joined-rules : (library addon : List ℕ) (gs : List Group) {end n : ℕ} {p : Place} → read_after 0 library ≡ got gs end → judge_types (types_of (joined gs)) (length (joined gs)) ≡ rejected n p → judge_joined library addon ≡ rejected n p
unfolding judge_joined judge_library
joined-rules library addon gs e f = rw (e, f)

pub joined_more : (library addon : List ℕ) (gs : List Group) {end m : ℕ} → read_after 0 library ≡ got gs end → judge_types (types_of (joined gs)) (length (joined gs)) ≡ accepted m → judge_joined library addon ≡ judge_more (joined gs) (read_after (length (joined gs)) addon)
unfolding judge_joined judge_library
joined_more library addon gs e f = rw (e, f)

-- What the order needs

pub record Passes (ds : List Definition) : Type 0 where
  pub earlier : (x : ℕ) {p : ℕ} → super_of (types_of ds x) ≡ some p → p < x
  pub short : (x : ℕ) → short_chain most_steps (types_of ds) x ≡ true
  pub same_kind : (x : ℕ) {p : ℕ} → super_of (types_of ds x) ≡ some p → kind_of (types_of ds p).form ≡ kind_of (types_of ds x).form

only_super : (ts : Types) (x : ℕ) (supers : List ℕ) {p : ℕ} → one_super ts x supers ≡ true → first_of supers ≡ some p → (p < x) × ((ts p).is_open ≡ true)
only_super ts x [] e f = absurd (none_is_not-some f)
only_super ts x (q ∷ r ∷ more) e f = absurd (false≢true e)
only_super ts x (q ∷ []) {p} e f =
    let same : q ≡ p = cc in
    let (below, allowed) = from_both (ltb q x) (ts q).is_open e in
    rw (← same) (ltb-true q x below, allowed)

pub super_earlier_and_open_lem : (ts : Types) (x : ℕ) {p : ℕ} → super_earlier_and_open ts x ≡ true → super_of (ts x) ≡ some p → (p < x) × ((ts p).is_open ≡ true)
unfolding super_earlier_and_open
super_earlier_and_open_lem ts x e f = only_super ts x (ts x).supers e f

pub super_matches : (ts : Types) (x : ℕ) {p : ℕ} → matches_super ts x ≡ true → super_of (ts x) ≡ some p → form_matches ts (ts x).form (ts p).form ≡ true
unfolding matches_super
super_matches ts x e f = rw f at e

pub matching_kinds : (ts : Types) (f g : Form) → form_matches ts f g ≡ true → kind_of g ≡ kind_of f
unfolding form_matches
matching_kinds ts (struct fs) (struct gs) e = refl
matching_kinds ts (struct fs) (func qs ss) e = absurd (false≢true e)
matching_kinds ts (func ps rs) (struct gs) e = absurd (false≢true e)
matching_kinds ts (func ps rs) (func qs ss) e = refl

pub kept_passes : (ds : List Definition) → Kept (types_of ds) → Passes ds
kept_passes ds kept =
    record {
      earlier = λ x e. (super_earlier_and_open_lem (types_of ds) x (kept.links x).super e).0;
      short = λ x. (kept.links x).short;
      same_kind = λ x {p} e. matching_kinds (types_of ds) (types_of ds x).form (types_of ds p).form (super_matches (types_of ds) x (kept.rules x).matches e);
    }

pub accepted_passes : (library addon : List ℕ) {j : Joined} → judge_joined library addon ≡ accepted j → Passes j.types
accepted_passes library addon {j} e = kept_passes j.types (accepted_kept library addon e)
