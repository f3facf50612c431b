-- The rules' words for lists are what the machine computes with: a place is found exactly where something stands, a changed list is
-- the one that `set` gives, and operands split where they are that many. Each by recursion on the list.
use Prim.Native.Nat.{ℕ, zero, suc}
use native.Mathlib.Omega.{arith}
use mathlib.Core.Path.{◌≡◌, refl, sym, ◌∙◌, ap}
use mathlib.Core.Option.{Option, none, some}
use mathlib.Core.List.{List, [], ◌∷◌, ◌++◌}
use lib.ListN.{length, get_elem?, set}
use Rattle.scope.specs.Reading.{given}
use Rattle.scope.specs.Machine.{Value, split_top}
use Rattle.scope.proofs.Truths.{none_is_not-some}
use Rattle.facts_steps.specs.Places.{Stands, stands_first, stands_later, Changed, changed_first, changed_later, Splits}

module _ {A : Type 0} where
  same_some : {x y : A} → some x ≡ some y → x ≡ y
  same_some e = cc

  pub found_stands : (xs : List A) (i : ℕ) {x : A} → get_elem? xs i ≡ some x → Stands i x xs
  found_stands [] i e = absurd (none_is_not-some e)
  found_stands (y ∷ xs) zero e = rw (← same_some e) stands_first
  found_stands (y ∷ xs) (suc i) e = stands_later (found_stands xs i e)

  pub stands_found : {i : ℕ} {x : A} {xs : List A} → Stands i x xs → get_elem? xs i ≡ some x
  stands_found stands_first = refl
  stands_found (stands_later s) = stands_found s

  pub found_changed : (xs : List A) (i : ℕ) (new : A) {old : A} → get_elem? xs i ≡ some old → Changed new i xs (set xs i new)
  found_changed [] i new e = absurd (none_is_not-some e)
  found_changed (y ∷ xs) zero new e = changed_first
  found_changed (y ∷ xs) (suc i) new e = changed_later (found_changed xs i new e)

  pub changed_set : {new : A} {i : ℕ} {xs ys : List A} → Changed new i xs ys → set xs i new ≡ ys
  changed_set changed_first = refl
  changed_set (changed_later {y = y} c) = ap (λ zs. y ∷ zs) (changed_set c)

  -- what stood there before
  pub record Before (i : ℕ) (xs : List A) : Type 0 where
    pub old : A
    pub there : get_elem? xs i ≡ some old

  pub changed_before : {new : A} {i : ℕ} {xs ys : List A} → Changed new i xs ys → Before i xs
  changed_before (changed_first {old = old}) = record { old = old; there = refl }
  changed_before (changed_later c) = let b = changed_before c in record { old = b.old; there = b.there }

top_splits : (top below : List Value) → split_top (length top) (top ++ below) ≡ some (top, below)
unfolding split_top
top_splits [] below = refl
top_splits (v ∷ top) below = rw (top_splits top below)

pub split_found : {n : ℕ} {vs top below : List Value} → Splits n vs top below → split_top n vs ≡ some (top, below)
split_found {top = top} {below} s = rw (s.is, ← s.many) (top_splits top below)

pub found_split : (n : ℕ) (vs : List Value) {s : List Value × List Value} → split_top n vs ≡ some s → Splits n vs s.0 s.1
unfolding split_top
found_split zero vs {s} e = let same : ([], vs) ≡ s = cc in rw (← same) (record { is = refl; many = refl })
found_split (suc n) [] e = absurd (none_is_not-some e)
found_split (suc n) (v ∷ vs) {s} e = go (split_top n vs) refl e (λ t. found_split n vs {s = t})
  where
    go : (o : Option (List Value × List Value)) → split_top n vs ≡ o → given o none (λ r. some (v ∷ r.0, r.1)) ≡ some s
        → ((t : List Value × List Value) → split_top n vs ≡ some t → Splits n vs t.0 t.1) → Splits (suc n) (v ∷ vs) s.0 s.1
    go none q f later = absurd (none_is_not-some f)
    go (some t) q f later =
        let same : (v ∷ t.0, t.1) ≡ s = cc in
        let more = later t q in
        rw (← same) (record { is = ap (λ (ws : List Value). v ∷ ws) more.is; many = ap suc more.many })
