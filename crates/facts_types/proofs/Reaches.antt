-- "A number may name any type up to the end of its own group", and a group ends no later than its section: the types of a section that
-- is read reach no further than its last. So those of a library that is accepted are judged with any types after them as they are alone
-- (Longer.antt), and who judges the joined list may begin after them.
use Prim.Native.Nat.{ℕ, zero, suc, ◌+◌, ◌-◌, ◌<◌, ◌≤◌}
use native.Mathlib.Omega.{arith}
use mathlib.Core.Path.{◌≡◌, refl, ap, ◌∙◌, subst}
use mathlib.Core.Logic.{◌⊎◌, inl, inr}
use mathlib.Core.Bool.{Bool, true, false, cond}
use mathlib.Core.Option.{Option, none, some}
use mathlib.Core.List.Memᴰ
use mathlib.Core.List.{List, [], ◌∷◌, ◌++◌, Memᴰ}
use lib.ListN.{length, length-append, get_elem?}
use lib.Dec.{eqb, ltb}
use Rattle.scope.specs.Sizes.{most_bytes, most_types}
use Rattle.scope.specs.Refusals.{bytes_end}
use Rattle.scope.specs.Reading.{Read, got, refused, given, then, on_byte, entries}
use Rattle.scope.specs.Numbers.{u32}
use Rattle.scope.specs.Lists.{joined}
use Rattle.scope.specs.Syntax.{Definition, Group, types_of}
use Rattle.scope.specs.Sections.{head_at, clause_at, describes_code, descriptor_code, form_at, definition_at, group_at, groups_at, read_after}
use Rattle.scope.specs.Judging.{accepted, and_then, links_fault, rule_fault, scan, judge_types}
use Rattle.facts_types.proofs.Longer.{skips_library}

-- what is read, where it is read, is such

data Gives {A : Type 0} (P : A → Type 0) : Read A → Type 0 where
  stops : {n p : ℕ} → Gives P (refused n p)
  gives : {x : A} {next : ℕ} → P x → Gives P (got x next)

module _ {A B : Type 0} {P : A → Type 0} {Q : B → Type 0} where
  gives_then : {r : Read A} {f : A → ℕ → Read B} → Gives P r → ((x : A) (next : ℕ) → P x → Gives Q (f x next)) → Gives Q (then r f)
  gives_then stops k = stops
  gives_then (gives {x} {next} such) k = k x next such

gives_such : {A : Type 0} {P Q : A → Type 0} {r : Read A} → Gives P r → ((x : A) → P x → Q x) → Gives Q r
gives_such stops k = stops
gives_such (gives {x} such) k = gives (k x such)

gives_any : {A : Type 0} (r : Read A) → Gives (λ (x : A). Unit {0}) r
gives_any (got x next) = gives tt
gives_any (refused n p) = stops

module _ {A : Type 0} {P : A → Type 0} where
  gives-cond : (b : Bool) {r q : Read A} → Gives P r → Gives P q → Gives P (cond b r q)
  gives-cond true r q = r
  gives-cond false r q = q

  gives_byte : (s : List ℕ) (at : ℕ) (f : ℕ → Read A) → ((b : ℕ) → Gives P (f b)) → Gives P (on_byte s at f)
  gives_byte s at f k = go (get_elem? s at)
    where
      go : (o : Option ℕ) → Gives P (given o (refused bytes_end at) f)
      go none = stops
      go (some b) = k b

-- a definition, a list of them, a group, the groups, a section

definition_reaches : (reach : ℕ) (s : List ℕ) (at : ℕ) → Gives (λ (d : Definition). d.reach ≡ reach) (definition_at reach s at)
unfolding definition_at
definition_reaches reach s at =
    gives_then (gives_any (head_at s at)) (λ h clauses u.
    gives_then (gives_any (clause_at describes_code s clauses)) (λ d next v.
    gives_then (gives_any (clause_at descriptor_code s next)) (λ e form w. gives_then (gives_any (form_at s form)) (λ f end z. gives refl))))

-- so many definitions, each of which reaches so far
record Reaching (n reach : ℕ) (ds : List Definition) : Type 0 where
  many : length ds ≡ n
  each : (d : Definition) → Memᴰ d ds → d.reach ≡ reach

reaching_more : {n reach : ℕ} {d : Definition} {ds : List Definition} → d.reach ≡ reach → Reaching n reach ds → Reaching (suc n) reach (d ∷ ds)
reaching_more {n} {reach} {d} {ds} this later = record { many = let m = later.many in omega arith; each = λ x m. go x m }
  where
    go : (x : Definition) → Memᴰ x (d ∷ ds) → x.reach ≡ reach
    go x (Memᴰ.head e) = ap (λ (k : Definition). k.reach) e ∙ this
    go x (Memᴰ.tail m) = later.each x m

none_reaching : (reach : ℕ) → Reaching 0 reach []
none_reaching reach = record { many = refl; each = λ d m. absurd (Memᴰ.not-nil m) }

list_reaches : (reach room n : ℕ) (s : List ℕ) (at : ℕ) → Gives (Reaching n reach) (entries (definition_at reach) room n s at)
unfolding entries
list_reaches reach room zero s at = gives (none_reaching reach)
list_reaches reach zero (suc n) s at = stops
list_reaches reach (suc room) (suc n) s at =
    gives_then (definition_reaches reach s at) (λ d next this.
    gives_then (list_reaches reach room n s next) (λ ds end later. gives (reaching_more this later)))

-- types that stand after so many reach no further than their last
record Ending (first : ℕ) (ds : List Definition) : Type 0 where
  up_to : (d : Definition) → Memᴰ d ds → d.reach ≤ first + length ds

group_ending : (first n : ℕ) {ds : List Definition} → Reaching n (first + n) ds → Ending first ds
group_ending first n r = record { up_to = λ d m. let so = r.each d m in let many = r.many in omega arith }

group_reaches : (first : ℕ) (s : List ℕ) (at : ℕ) → Gives (Ending first) (group_at first s at)
unfolding group_at
group_reaches first s at =
    gives_byte s at _ (λ b.
    gives-cond (eqb b 0x4E)
    (gives_then (gives_any (u32 s (at + 1))) (λ n next u. gives_such (list_reaches (first + n) (most_types - first) n s next) (λ ds r. group_ending first n r)))
    (gives-cond (ltb first most_types)
    (gives_then (definition_reaches (first + 1) s at) (λ d next this. gives (group_ending first 1 (reaching_more this (none_reaching (first + 1))))))
    stops))

ending_more : (first : ℕ) (g more : List Definition) → Ending first g → Ending (first + length g) more → Ending first (g ++ more)
ending_more first g more this later = record { up_to = λ d m. go d (Memᴰ.append_cases g m) }
  where
    go : (d : Definition) → Memᴰ d g ⊎ Memᴰ d more → d.reach ≤ first + length (g ++ more)
    go d (inl m) = let here = this.up_to d m in let all = length-append g more in omega arith
    go d (inr m) = let there = later.up_to d m in let all = length-append g more in omega arith

groups_reach : (n first : ℕ) (s : List ℕ) (at : ℕ) → Gives (λ (gs : List Group). Ending first (joined gs)) (groups_at n first s at)
unfolding groups_at
groups_reach zero first s at = gives (record { up_to = λ d m. absurd (Memᴰ.not-nil m) })
groups_reach (suc n) first s at =
    gives_then (group_reaches first s at) (λ g next this.
    gives_then (groups_reach n (first + length g) s next) (λ gs end later. gives (ending_more first g (joined gs) this later)))

read_reaches : (first : ℕ) (s : List ℕ) → Gives (λ (gs : List Group). Ending first (joined gs)) (read_after first s)
unfolding read_after
read_reaches first s =
    gives-cond (ltb most_bytes (length s)) stops
    (gives_then (gives_any (u32 s 0)) (λ n next u. gives_then (groups_reach n first s next) (λ gs at this. gives-cond (eqb at (length s)) (gives this) stops)))

type_among : (ds : List Definition) (x : ℕ) → x < length ds → Memᴰ (types_of ds x) ds
type_among [] x h = absurd (omega arith)
type_among (d ∷ ds) zero h = Memᴰ.head refl
type_among (d ∷ ds) (suc x) h = Memᴰ.tail (type_among ds x (omega arith))

was_given : {A : Type 0} {P : A → Type 0} {x : A} {next : ℕ} → Gives P (got x next) → P x
was_given (gives such) = such

pub read_reach : (first : ℕ) (s : List ℕ) (gs : List Group) {end : ℕ} → read_after first s ≡ got gs end → (x : ℕ) → x < length (joined gs) → (types_of (joined gs) x).reach ≤ first + length (joined gs)
read_reach first s gs e x below =
    (was_given (subst (Gives (λ (hs : List Group). Ending first (joined hs))) e (read_reaches first s))).up_to (types_of (joined gs) x) (type_among (joined gs) x below)

-- of a library

module _ (library : List ℕ) (gs : List Group) (more : List Definition) {end m : ℕ} (read : read_after 0 library ≡ got gs end) (yes' : judge_types (types_of (joined gs)) (length (joined gs)) ≡ accepted m) where
  pub read_skips_library : judge_types (types_of (joined gs ++ more)) (length (joined gs ++ more))
      ≡ and_then (scan (links_fault (types_of (joined gs ++ more))) (length (joined gs)) (length more))
      (λ all. scan (rule_fault (types_of (joined gs ++ more))) (length (joined gs)) (length more))
  read_skips_library = skips_library (joined gs) more yes' (λ x below. let far = read_reach 0 library gs read x below in omega arith)
