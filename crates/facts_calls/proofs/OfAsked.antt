-- Demand 2 of asking for a type: the sections' verdict, then the number; the part that is cut out is the writing of the
-- definition (proofs/VeryBytes.antt).
use Prim.Native.Nat.{ℕ, zero, suc, ◌-◌, ◌<◌}
use native.Mathlib.Omega.{arith}
use mathlib.Core.Path.{◌≡◌, refl, sym, ◌∙◌, ap, subst}
use mathlib.Core.Bool.{Bool, true, false, cond}
use mathlib.Core.Option.{some}
use mathlib.Core.List.{List, [], ◌∷◌, ◌++◌, Memᴰ}
use lib.ListN.{length, get_elem?, take-append-drop}
use lib.Dec.{ltb}
use borrow.Author.Tests.{ltb-true, ltb-false, lt-ltb, le-ltb}
use Rattle.scope.specs.declared.Place.{Place}
use Rattle.scope.specs.declared.Asked.{Asked}
use Rattle.scope.specs.declared.Asked
use Rattle.scope.specs.Refusals.{out_of_reach}
use Rattle.scope.specs.Layout.{codes_size}
use Rattle.scope.specs.Lists.{joined}
use Rattle.scope.specs.Syntax.{Definition, types_of}
use Rattle.scope.specs.Judging.{plain, Judged, accepted, rejected, and_then, Joined, judge_joined, Held, held_at, ask_type, part_of}
use Rattle.scope.specs.Memory.{starts_of, ends_of, library_types, addon_types, joined_rows, joined_shared, joined_codes}
use Rattle.scope.specs.Answers.{table_lent, lent_enough, lent_after, section_call, ask_call, asked_of, asked_types, ask_table, TypeAsked, TypeHanded}
use Rattle.scope.proofs.Impossible.{contradiction}
use Rattle.scope.proofs.Truths.{none_is_not-some}
use Rattle.facts_sections.specs.Allowed.{Allowed}
use Rattle.facts_sections.specs.FirstFault.{Refused}
use Rattle.facts_sections.specs.Writing.{WritesDefinition}
use Rattle.facts_sections.proofs.Exactly.{accepted_exactly}
use Rattle.facts_sections.proofs.FaultOrder.{refused_exactly}
use Rattle.facts_calls.specs.Lent.{TableSuffices}
use Rattle.facts_calls.specs.Asked.{LiesIn, HeldBy, library_holds, addon_holds, TypeOf, Lies, NoType, AskSaysNo, by_memory, by_section, by_number, begins_at, ends_at, OfAsked, OfHanded}
use Rattle.facts_calls.proofs.Zero.{wiped-zero}
use Rattle.facts_calls.proofs.Room.{table-beyond}
use Rattle.facts_calls.proofs.Lent.{table_suffices, table-lent, table_is_short, short_table}
use Rattle.facts_calls.proofs.Verdicts.{same_accepted, accepted_is_not_rejected, lent-yes, lent-call, short_call}
use Rattle.facts_calls.proofs.VeryBytes.{present_among, cut_out, Handed, handed, first_entry, second_entry, both-rows_say}

-- types by number

present_below : {A : Type 0} (xs : List A) (x : ℕ) {d : A} → get_elem? xs x ≡ some d → x < length xs
present_below [] x e = absurd (none_is_not-some e)
present_below (y ∷ xs) zero e = omega arith
present_below (y ∷ xs) (suc x) e = let h : x < length xs = present_below xs x e in omega arith

present_type : (ds : List Definition) (x : ℕ) {d : Definition} → get_elem? ds x ≡ some d → types_of ds x ≡ d
present_type [] x e = absurd (none_is_not-some e)
present_type (y ∷ ds) zero e = cc
present_type (y ∷ ds) (suc x) e = present_type ds x e

below_present : (ds : List Definition) (x : ℕ) → x < length ds → get_elem? ds x ≡ some (types_of ds x)
below_present [] x h = absurd (omega arith)
below_present (d ∷ ds) zero h = refl
below_present (d ∷ ds) (suc x) h = below_present ds x (omega arith)

-- which section holds it

held_by : (j : Joined) (x : ℕ) → HeldBy j x (ltb x j.before)
held_by j x = go (ltb x j.before) refl
  where
    go : (t : Bool) → ltb x j.before ≡ t → HeldBy j x t
    go true below = library_holds (ltb-true _ _ below)
    go false beyond = addon_holds (ltb-false _ _ beyond)

input_is : {j : Joined} {x : ℕ} {mine : Bool} → HeldBy j x mine → ltb x j.before ≡ mine
input_is (library_holds below) = lt-ltb _ _ below
input_is (addon_holds beyond) = le-ltb _ _ beyond

abbrev holding : Bool → Definition → Held
holding mine d = record { of_library = mine; definition = d }

held_is : {j : Joined} {x : ℕ} {mine : Bool} {d : Definition} → HeldBy j x mine → get_elem? j.types x ≡ some d → held_at j x ≡ holding mine d
held_is {j} {x} held there = let a = input_is held in let b = present_type j.types x there in rw (a, b)

-- the verdict on the question

abbrev asked_in : ℕ → Joined → Judged Held
asked_in x j = cond (ltb x (length j.types)) (accepted (held_at j x)) (rejected out_of_reach (plain x))

module _ (library s : List ℕ) (x : ℕ) where
  type_of_lem : {h : Held} → ask_type library s x ≡ accepted h → TypeOf library s x h.of_library h.definition
  unfolding ask_type
  type_of_lem {h} e = go (judge_joined library s) refl e
    where
      on : (j : Joined) → judge_joined library s ≡ accepted j → (t : Bool) → ltb x (length j.types) ≡ t
          → cond t (accepted (held_at j x)) (rejected out_of_reach (plain x)) ≡ accepted h → TypeOf library s x h.of_library h.definition
      on j judged true below f =
          let there = below_present j.types x (ltb-true _ _ below) in
          let same : held_at j x ≡ h = same_accepted f in
          subst (λ (k : Held). TypeOf library s x k.of_library k.definition) same
          (record { both = j; allowed = (accepted_exactly library s j).0 judged; present = there; held = held_by j x })
      on j judged false beyond f = absurd (accepted_is_not_rejected (sym f))

      go : (v : Judged Joined) → judge_joined library s ≡ v → and_then v (asked_in x) ≡ accepted h → TypeOf library s x h.of_library h.definition
      go (rejected n p) judged f = absurd (accepted_is_not_rejected (sym f))
      go (accepted j) judged f = on j judged (ltb x (length j.types)) refl f

  of_type_lem : {j : Joined} {mine : Bool} {d : Definition} → Allowed library s j → get_elem? j.types x ≡ some d → HeldBy j x mine → ask_type library s x ≡ accepted (holding mine d)
  unfolding ask_type
  of_type_lem {j} a e held = rw ((accepted_exactly library s j).1 a, lt-ltb _ _ (present_below j.types x e)) (ap accepted (held_is held e))

  no-type : NoType library s x → ask_type library s x ≡ rejected out_of_reach (plain x)
  unfolding ask_type
  no-type n = rw ((accepted_exactly library s n.both).1 n.allowed, le-ltb _ _ n.absent)

  no-section : {number : ℕ} {place : Place} → Refused library s number place → ask_type library s x ≡ rejected number place
  unfolding ask_type
  no-section {number} {place} e = rw ((refused_exactly library s number place).1 e)

  table_of : (rows shared codes : List ℕ) {v : Judged Joined} → section_call library s rows shared codes ≡ v
      → ask_table library s x rows shared codes ≡ and_then v (asked_types (ask_call library s x rows shared codes))
  table_of rows shared codes e = ap (λ (v : Judged Joined). and_then v (asked_types (ask_call library s x rows shared codes))) e

  module _ {rows shared codes : List ℕ} where
    called : {mine : Bool} {d : Definition} → TableSuffices rows shared codes → TypeOf library s x mine d → ask_call library s x rows shared codes ≡ accepted (holding mine d)
    called t is = lent-call (table_lent rows shared codes) (ask_type library s x) (table-lent t) ∙ of_type_lem is.allowed is.present is.held

    said-no : {number : ℕ} {place : Place} → ask_call library s x rows shared codes ≡ rejected number place → AskSaysNo library s x rows shared codes number place
    unfolding ask_type
    said-no {number} {place} e = go (table_lent rows shared codes) refl e
      where
        as_said : {n : ℕ} {p : Place} → AskSaysNo library s x rows shared codes n p → n ≡ number → p ≡ place → AskSaysNo library s x rows shared codes number place
        as_said no' a b = rw (← a, ← b) no'

        one : {n : ℕ} {p : Place} → ◌≡◌ {A = Judged Held} (rejected n p) (rejected number place) → (n ≡ number) × (p ≡ place)
        one f = (cc, cc)

        by_its_number : TableSuffices rows shared codes → (j : Joined) → judge_joined library s ≡ accepted j → (t : Bool) → ltb x (length j.types) ≡ t
            → cond t (accepted (held_at j x)) (rejected out_of_reach (plain x)) ≡ rejected number place → AskSaysNo library s x rows shared codes number place
        by_its_number t j judged true below f = absurd (accepted_is_not_rejected f)
        by_its_number t j judged false beyond f =
            let (a, b) = one f in
            as_said (by_number t (record { both = j; allowed = (accepted_exactly library s j).0 judged; absent = ltb-false _ _ beyond })) a b

        by_verdict : TableSuffices rows shared codes → (v : Judged Joined) → judge_joined library s ≡ v → and_then v (asked_in x) ≡ rejected number place → AskSaysNo library s x rows shared codes number place
        by_verdict t (rejected n p) judged f = let (a, b) = one f in as_said (by_section t ((refused_exactly library s n p).0 judged)) a b
        by_verdict t (accepted j) judged f = by_its_number t j judged (ltb x (length j.types)) refl f

        go : (t : Bool) → table_lent rows shared codes ≡ t → lent_enough t (ask_type library s x) ≡ rejected number place → AskSaysNo library s x rows shared codes number place
        go true lent f = by_verdict (table_suffices lent) (judge_joined library s) refl f
        go false short f = let (a, b) = one f in as_said (by_memory (table_is_short short)) a b

    says_no_lem : {number : ℕ} {place : Place} → AskSaysNo library s x rows shared codes number place → ask_call library s x rows shared codes ≡ rejected number place
    says_no_lem (by_memory short) = short_call (table_lent rows shared codes) (ask_type library s x) (short_table short)
    says_no_lem (by_section t e) = lent-call (table_lent rows shared codes) (ask_type library s x) (table-lent t) ∙ no-section e
    says_no_lem (by_number t n) = lent-call (table_lent rows shared codes) (ask_type library s x) (table-lent t) ∙ no-type n

    -- the table's verdict

    table-said : {j : Joined} {d : Definition} → TableSuffices rows shared codes → Allowed library s j → get_elem? j.types x ≡ some d → ask_table library s x rows shared codes ≡ accepted j
    table-said {j} t a e =
        table_of rows shared codes (lent-call (table_lent rows shared codes) (judge_joined library s) (table-lent t) ∙ (accepted_exactly library s j).1 a)
        ∙ ap (λ (v : Judged Held). asked_types v j) (called t (record { both = j; allowed = a; present = e; held = held_by j x }))

    table-no : {number : ℕ} {place : Place} → AskSaysNo library s x rows shared codes number place → ask_table library s x rows shared codes ≡ rejected number place
    table-no (by_memory short) = table_of rows shared codes (short_call (table_lent rows shared codes) (judge_joined library s) (short_table short))
    table-no (by_section {number = number} {place = place} t e) =
        table_of rows shared codes (lent-call (table_lent rows shared codes) (judge_joined library s) (table-lent t) ∙ (refused_exactly library s number place).1 e)
    table-no (by_number t n) =
        table_of rows shared codes (lent-call (table_lent rows shared codes) (judge_joined library s) (table-lent t) ∙ (accepted_exactly library s n.both).1 n.allowed)
        ∙ ap (λ (v : Judged Held). asked_types v n.both) (says_no_lem (by_number t n))

-- the answers

asked-yes : (v : Judged Held) {mine : Bool} {from to : ℕ} → asked_of v ≡ cond mine (Asked.TheVariants.Library from to) (Asked.TheVariants.Addon from to)
    → (h : Held) × (v ≡ accepted h) × (h.of_library ≡ mine) × (h.definition.from ≡ from) × (h.definition.to ≡ to)
asked-yes (rejected n p) {mine} {from} {to} e = absurd (never mine e)
  where
    never : (m : Bool) → Asked.TheVariants.Refused n p ≡ cond m (Asked.TheVariants.Library from to) (Asked.TheVariants.Addon from to) → ⊥
    never true f = contradiction cc
    never false f = contradiction cc
asked-yes (accepted h) {mine} {from} {to} e = go h.of_library mine refl refl e
  where
    go : (a b : Bool) → h.of_library ≡ a → mine ≡ b
        → cond a (Asked.TheVariants.Library h.definition.from h.definition.to) (Asked.TheVariants.Addon h.definition.from h.definition.to)
        ≡ cond b (Asked.TheVariants.Library from to) (Asked.TheVariants.Addon from to)
        → (k : Held) × (accepted h ≡ accepted k) × (k.of_library ≡ mine) × (k.definition.from ≡ from) × (k.definition.to ≡ to)
    go true true p q f =
        let x : h.definition.from ≡ from = cc in
        let y : h.definition.to ≡ to = cc in
        (h, refl, p ∙ sym q, x, y)
    go false false p q f =
        let x : h.definition.from ≡ from = cc in
        let y : h.definition.to ≡ to = cc in
        (h, refl, p ∙ sym q, x, y)
    go true false p q f = absurd (contradiction cc)
    go false true p q f = absurd (contradiction cc)

asked-no : (v : Judged Held) {n : ℕ} {p : Place} → asked_of v ≡ Asked.TheVariants.Refused n p → v ≡ rejected n p
asked-no (accepted h) {n} {p} e = absurd (never h.of_library e)
  where
    never : (m : Bool) → cond m (Asked.TheVariants.Library h.definition.from h.definition.to) (Asked.TheVariants.Addon h.definition.from h.definition.to) ≡ Asked.TheVariants.Refused n p → ⊥
    never true f = contradiction cc
    never false f = contradiction cc
asked-no (rejected k q) {n} {p} e = let number : k ≡ n = cc in let place : q ≡ p = cc in rw (number, place)

module _ {library s : List ℕ} {x : ℕ} {rows shared codes rows' shared' codes' : List ℕ} {r : Asked} (promise : TypeAsked library s x rows shared codes rows' shared' codes' r) where
  found : (mine : Bool) (from to : ℕ) → r ≡ cond mine (Asked.TheVariants.Library from to) (Asked.TheVariants.Addon from to)
      → TableSuffices rows shared codes × Lies library s x mine from to
  found mine from to e =
      let (h, call, i, a, b) = asked-yes (ask_call library s x rows shared codes) {mine = mine} {from = from} {to = to} (sym promise.answer ∙ e) in
      let (lent, asked) = lent-yes (table_lent rows shared codes) (ask_type library s x) call in
      let is : TypeOf library s x mine h.definition = subst (λ (k : Bool). TypeOf library s x k h.definition) i (type_of_lem library s x asked) in
      (table_suffices lent, record { definition = h.definition; is_type = is; begins = a; ends = b })

  tells : (mine : Bool) (from to : ℕ) → TableSuffices rows shared codes × Lies library s x mine from to
      → r ≡ cond mine (Asked.TheVariants.Library from to) (Asked.TheVariants.Addon from to)
  tells mine from to (t, l) = promise.answer ∙ ap asked_of (called library s x t l.is_type) ∙ rw (l.begins, l.ends)

  said : {number : ℕ} {place : Place} → r ≡ Asked.TheVariants.Refused number place → AskSaysNo library s x rows shared codes number place
  said e = said-no library s x (asked-no (ask_call library s x rows shared codes) (sym promise.answer ∙ e))

  after : {v : Judged Joined} → ask_table library s x rows shared codes ≡ v
      → (rows' ≡ lent_after joined_rows rows v) × (shared' ≡ lent_after joined_shared shared v) × (codes' ≡ lent_after joined_codes codes v)
  after call = (promise.rows_after ∙ ap (lent_after joined_rows rows) call, promise.shared_after ∙ ap (lent_after joined_shared shared) call, promise.codes_after ∙ ap (lent_after joined_codes codes) call)

  pub of_asked : OfAsked promise
  of_asked =
      record {
        in_library = λ from to. (found true from to, tells true from to);
        in_addon = λ from to. (found false from to, tells false from to);
        refused = λ number place. (said, λ no'. promise.answer ∙ ap asked_of (says_no_lem library s x no'));
        table = λ j d t a e. let (p, q, r) = after (table-said library s x t a e) in table-beyond j t a p q r;
        wipes = λ number place e. let (p, q, r) = after (table-no library s x (said e)) in (wiped-zero p, wiped-zero q, wiped-zero r);
      }

-- the writing of a definition, in the section that holds it
its_writing : {library s : List ℕ} {x : ℕ} {mine : Bool} {d : Definition} {j : Joined} → Allowed library s j → get_elem? j.types x ≡ some d → HeldBy j x mine → Handed (cond mine library s) d
its_writing {x = x} {d = d} {j = j} a there (library_holds below) =
    let before : j.before ≡ length a.shared = ap (λ (k : Joined). k.before) (sym a.joins) in
    let types : j.types ≡ a.shared ++ joined a.groups = ap (λ (k : Joined). k.types) (sym a.joins) in
    let within : get_elem? (a.shared ++ joined a.groups) x ≡ some d = ap (λ (ds : List Definition). get_elem? ds x) (sym types) ∙ there in
    let own : get_elem? a.shared x ≡ some d = sym (first_entry a.shared (joined a.groups) x (omega arith)) ∙ within in
    handed a.library_allowed.section.writing (subst (Memᴰ d) (sym a.library_allowed.types) (present_among a.shared x own))
its_writing {x = x} {d = d} {j = j} a there (addon_holds beyond) =
    let before : j.before ≡ length a.shared = ap (λ (k : Joined). k.before) (sym a.joins) in
    let types : j.types ≡ a.shared ++ joined a.groups = ap (λ (k : Joined). k.types) (sym a.joins) in
    let within : get_elem? (a.shared ++ joined a.groups) x ≡ some d = ap (λ (ds : List Definition). get_elem? ds x) (sym types) ∙ there in
    let own : get_elem? (joined a.groups) (x - length a.shared) ≡ some d = sym (second_entry a.shared (joined a.groups) x (omega arith)) ∙ within in
    handed a.section.writing (present_among (joined a.groups) (x - length a.shared) own)

module _ {library s : List ℕ} {x : ℕ} {rows shared codes rows' shared' codes' part : List ℕ} (promise : TypeHanded library s x rows shared codes rows' shared' codes' part) where
  module _ (mine : Bool) (d : Definition) (t : TableSuffices rows shared codes) (is : TypeOf library s x mine d) where
    its : Handed (cond mine library s) d
    its = its_writing is.allowed is.present is.held

    cut : part ≡ its.part
    cut = promise.bytes ∙ ap (part_of library s) (called library s x t is) ∙ cut_out its.lies

    very_bytes : WritesDefinition d.reach d.from part d
    very_bytes = subst (λ (w : List ℕ). WritesDefinition d.reach d.from w d) (sym cut) its.writes

    lies_there : LiesIn (cond mine library s) part d.from d.to
    lies_there = subst (λ (w : List ℕ). LiesIn (cond mine library s) w d.from d.to) (sym cut) its.lies

    row_says : (get_elem? rows' (begins_at x) ≡ some d.from) × (get_elem? rows' (ends_at x) ≡ some d.to)
    row_says =
        let j = is.both in
        let there = promise.rows_after ∙ ap (lent_after joined_rows rows) (table-said library s x t is.allowed is.present) in
        let entry : get_elem? (library_types j ++ addon_types j) x ≡ some d = ap (λ (ds : List Definition). get_elem? ds x) (take-append-drop j.before j.types) ∙ is.present in
        rw there (both-rows_say (starts_of j.types) (ends_of j.types) (library_types j) (addon_types j) 0 codes_size (length (library_types j)) 0 x _ entry)

  pub of_handed : OfHanded promise
  of_handed =
      record {
        writes = very_bytes;
        lies = lies_there;
        row = row_says;
        empty = λ number place no'. promise.bytes ∙ ap (part_of library s) (says_no_lem library s x no');
        table = λ j d t a e. let call = table-said library s x t a e in table-beyond j t a (promise.rows_after ∙ ap (lent_after joined_rows rows) call) (promise.shared_after ∙ ap (lent_after joined_shared shared) call) (promise.codes_after ∙ ap (lent_after joined_codes codes) call);
        wipes = λ number place no'. let call = table-no library s x no' in (wiped-zero (promise.rows_after ∙ ap (lent_after joined_rows rows) call), wiped-zero (promise.shared_after ∙ ap (lent_after joined_shared shared) call), wiped-zero (promise.codes_after ∙ ap (lent_after joined_codes codes) call));
      }
