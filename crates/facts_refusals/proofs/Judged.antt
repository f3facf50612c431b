-- A verdict and a list of rules say the same: allowed, and all rules are kept; or a fault, and its number is that of the
-- first rule that is broken. Each way of putting verdicts together keeps it, one rule for each test.
use Prim.Native.Nat.{ℕ}
use mathlib.Core.Path.{◌≡◌, refl}
use mathlib.Core.Logic.{◌↔◌}
use mathlib.Core.Bool.{Bool, true, false, false≢true}
use mathlib.Core.Option.{Option, none, some}
use mathlib.Core.List.{List, [], ◌∷◌, ◌++◌}
use Rattle.scope.specs.BodyRules.{Ruled, allowed, fault, test, need, and_ruled}
use Rattle.scope.proofs.Impossible.{contradiction}
use Rattle.facts_sections.specs.FirstFault.{Rule, AllKept, all_kept, kept_and, FirstBroken, broken, kept_then}

pub data Judges {A : Type 0} : Ruled A → List Rule → Type 1 where
  says_yes : {x : A} {rules : List Rule} → AllKept rules → Judges (allowed x) rules
  says_no_lem : {n : ℕ} {rules : List Rule} → FirstBroken rules n → Judges (fault n) rules

pub nothing_asked : {A : Type 0} {x : A} → Judges (allowed x) []
nothing_asked = says_yes all_kept

also_kept : {A : Type 0} {r : Rule} {rules : List Rule} {v : Ruled A} → r.says → Judges v rules → Judges v (r ∷ rules)
also_kept p (says_yes all) = says_yes (kept_and p all)
also_kept p (says_no_lem first) = says_no_lem (kept_then p first)

pub judges_test : {A : Type 0} {r : Rule} {rules : List Rule} (t : Bool) {more : Ruled A}
    → (t ≡ true → r.says) → (r.says → t ≡ true) → (t ≡ true → Judges more rules) → Judges (test t r.number more) (r ∷ rules)
judges_test true says tested later = also_kept (says refl) (later refl)
judges_test false says tested later = says_no_lem (broken (λ p. false≢true (tested p)))

pub judges_need : {A B : Type 0} {r : Rule} {rules : List Rule} (o : Option B) {f : B → Ruled A}
    → ((x : B) → o ≡ some x → r.says) → (r.says → o ≡ none → ⊥) → ((x : B) → o ≡ some x → Judges (f x) rules) → Judges (need o r.number f) (r ∷ rules)
judges_need none says missing later = says_no_lem (broken (λ p. missing p refl))
judges_need (some x) says missing later = also_kept (says x refl) (later x refl)

-- one verdict after the other

kept-both : {first later : List Rule} → AllKept first → AllKept later → AllKept (first ++ later)
kept-both all_kept b = b
kept-both (kept_and p a) b = kept_and p (kept-both a b)

broken_later : {first later : List Rule} {n : ℕ} → AllKept first → FirstBroken later n → FirstBroken (first ++ later) n
broken_later all_kept b = b
broken_later (kept_and p a) b = kept_then p (broken_later a b)

broken_first : {first : List Rule} (later : List Rule) {n : ℕ} → FirstBroken first n → FirstBroken (first ++ later) n
broken_first later (broken wrong) = broken wrong
broken_first later (kept_then p more) = kept_then p (broken_first later more)

behind : {A : Type 0} {first later : List Rule} {v : Ruled A} → AllKept first → Judges v later → Judges v (first ++ later)
behind a (says_yes b) = says_yes (kept-both a b)
behind a (says_no_lem b) = says_no_lem (broken_later a b)

pub judges_and : {A B : Type 0} {first : List Rule} (later : List Rule) {v : Ruled B} {f : B → Ruled A}
    → Judges v first → ((x : B) → v ≡ allowed x → Judges (f x) later) → Judges (and_ruled v f) (first ++ later)
judges_and later (says_yes {x = x} a) k = behind a (k x refl)
judges_and later (says_no_lem b) k = says_no_lem (broken_first later b)

-- so a fault is said exactly when its number is that of the first rule that is broken

unbroken : {rules : List Rule} {n : ℕ} → AllKept rules → FirstBroken rules n → ⊥
unbroken (kept_and p a) (broken wrong) = wrong p
unbroken (kept_and p a) (kept_then q b) = unbroken a b
unbroken {n = n} all_kept x3 = elim x3 [ ]

one-first : {rules : List Rule} {n m : ℕ} → FirstBroken rules n → FirstBroken rules m → n ≡ m
one-first (broken wrong) (broken other) = refl
one-first (broken wrong) (kept_then p b) = absurd (wrong p)
one-first (kept_then p a) (broken wrong) = absurd (wrong p)
one-first (kept_then p a) (kept_then q b) = one-first a b

pub fault_first : {A : Type 0} {rules : List Rule} {v : Ruled A} {n : ℕ} → Judges v rules → v ≡ fault n → FirstBroken rules n
fault_first (says_yes all) e = absurd (contradiction cc)
fault_first {n = n} (says_no_lem {n = m} first) e = let same : m ≡ n = cc in rw (← same) first

pub first_fault : {A : Type 0} {rules : List Rule} {v : Ruled A} {n : ℕ} → Judges v rules → FirstBroken rules n → v ≡ fault n
first_fault (says_yes all) b = absurd (unbroken all b)
first_fault (says_no_lem first) b = rw (one-first first b)

pub fault_exactly : {A : Type 0} {rules : List Rule} {v : Ruled A} {n : ℕ} → Judges v rules → (v ≡ fault n) ↔ FirstBroken rules n
fault_exactly j = (fault_first j, first_fault j)
