-- A code that names types in reach only is small, and the other way round: there is one code for each abstract type and two for each
-- number.
use Prim.Native.Nat.{ℕ, ◌+◌, ◌-◌, ◌*◌, ◌/◌, ◌%◌, ◌≤◌, ◌<◌}
use mathlib.Core.Path.{◌≡◌, refl, sym, ◌∙◌}
use mathlib.Core.Logic.{◌⊎◌, inl, inr}
use mathlib.Core.Bool.{Bool, true, false}
use native.Mathlib.Omega.{arith}
use Rattle.std.proofs.Math.Bool.{and-true}
use lib.Dec.{ltb}
use borrow.Author.Tests.{ltb-true, ltb-false, eqb-true, eqb-false, lt-ltb, le-ltb}
use Rattle.scope.specs.TypeRules.{heap_names, val_names}
use Rattle.scope.proofs.Truths.{decided, from_both}
use Rattle.type_table.specs.View.{is_odd, heap_at_code, val_at_code, field_at_code}
use Rattle.type_table.proofs.Codes.{heap_abstract, heap_exact, heap-defined, val_number, val_ref}
use Rattle.type_reach.specs.Names.{all_below, code_names, Limit}

pub heap-small : (types c : ℕ) → all_below types (heap_names (heap_at_code c)) ≡ true → c < 12 + 2 * types
unfolding all_below
heap-small types c e = go (decided (ltb c 10)) (decided (is_odd c))
  where
    half : (ltb ((c - 10) / 2) types ≡ true) → 10 ≤ c → c < 12 + 2 * types
    half g h = let l : (c - 10) / 2 < types = ltb-true ((c - 10) / 2) types g in omega arith

    go : (ltb c 10 ≡ true) ⊎ (ltb c 10 ≡ false) → (is_odd c ≡ true) ⊎ (is_odd c ≡ false) → c < 12 + 2 * types
    go (inl low) odd = let h : c < 10 = ltb-true c 10 low in omega arith
    go (inr high) (inl odd) = let h : 10 ≤ c = ltb-false c 10 high in half (from_both (ltb ((c - 10) / 2) types) true (rw (heap_exact h (eqb-true (c % 2) 1 odd)) at e)).0 h
    go (inr high) (inr even) = let h : 10 ≤ c = ltb-false c 10 high in half (from_both (ltb ((c - 10) / 2) types) true (rw (heap-defined h (eqb-false (c % 2) 1 even)) at e)).0 h

pub val_small : (types c : ℕ) → all_below types (val_names (val_at_code c)) ≡ true → c < 28 + 4 * types
val_small types c e = go (decided (ltb c 4))
  where
    go : (ltb c 4 ≡ true) ⊎ (ltb c 4 ≡ false) → c < 28 + 4 * types
    go (inl low) = let h : c < 4 = ltb-true c 4 low in omega arith
    go (inr high) = let h : 4 ≤ c = ltb-false c 4 high in let l : (c - 4) / 2 < 12 + 2 * types = heap-small types ((c - 4) / 2) (rw (val_ref h) at e) in omega arith

-- and a small code names types in reach only

pub heap_limit : (reach c : ℕ) → all_below reach (heap_names (heap_at_code c)) ≡ ltb c (10 + 2 * reach)
unfolding all_below
heap_limit reach c = go (decided (ltb c 10)) (decided (is_odd c))
  where
    half : (b : Bool) → ltb ((c - 10) / 2) reach ≡ b → 10 ≤ c → b ≡ ltb c (10 + 2 * reach)
    half true g h = let l : (c - 10) / 2 < reach = ltb-true ((c - 10) / 2) reach g in sym (lt-ltb c (10 + 2 * reach) (omega arith))
    half false g h = let l : reach ≤ (c - 10) / 2 = ltb-false ((c - 10) / 2) reach g in sym (le-ltb c (10 + 2 * reach) (omega arith))

    go : (ltb c 10 ≡ true) ⊎ (ltb c 10 ≡ false) → (is_odd c ≡ true) ⊎ (is_odd c ≡ false) → all_below reach (heap_names (heap_at_code c)) ≡ ltb c (10 + 2 * reach)
    go (inl low) odd = let h : c < 10 = ltb-true c 10 low in rw (heap_abstract h) (sym (lt-ltb c (10 + 2 * reach) (omega arith)))
    go (inr high) (inl odd) = let h : 10 ≤ c = ltb-false c 10 high in rw (heap_exact h (eqb-true (c % 2) 1 odd)) (and-true (ltb ((c - 10) / 2) reach) ∙ half (ltb ((c - 10) / 2) reach) refl h)
    go (inr high) (inr even) = let h : 10 ≤ c = ltb-false c 10 high in rw (heap-defined h (eqb-false (c % 2) 1 even)) (and-true (ltb ((c - 10) / 2) reach) ∙ half (ltb ((c - 10) / 2) reach) refl h)

pub val_limit : (reach c : ℕ) → all_below reach (val_names (val_at_code c)) ≡ ltb c (24 + 4 * reach)
unfolding all_below
val_limit reach c = go (decided (ltb c 4))
  where
    doubled : (b : Bool) → ltb ((c - 4) / 2) (10 + 2 * reach) ≡ b → 4 ≤ c → b ≡ ltb c (24 + 4 * reach)
    doubled true g h = let l = ltb-true ((c - 4) / 2) (10 + 2 * reach) g in sym (lt-ltb c (24 + 4 * reach) (omega arith))
    doubled false g h = let l = ltb-false ((c - 4) / 2) (10 + 2 * reach) g in sym (le-ltb c (24 + 4 * reach) (omega arith))

    go : (ltb c 4 ≡ true) ⊎ (ltb c 4 ≡ false) → all_below reach (val_names (val_at_code c)) ≡ ltb c (24 + 4 * reach)
    go (inl low) = let h : c < 4 = ltb-true c 4 low in rw (val_number h) (sym (lt-ltb c (24 + 4 * reach) (omega arith)))
    go (inr high) = let h : 4 ≤ c = ltb-false c 4 high in rw (val_ref h) (heap_limit reach ((c - 4) / 2) ∙ doubled (ltb ((c - 4) / 2) (10 + 2 * reach)) refl h)

field_limit : (reach c : ℕ) → all_below reach (val_names (val_at_code (c / 2))) ≡ ltb c (2 * (24 + 4 * reach))
field_limit reach c = val_limit reach (c / 2) ∙ go (ltb (c / 2) (24 + 4 * reach)) refl
  where
    go : (b : Bool) → ltb (c / 2) (24 + 4 * reach) ≡ b → b ≡ ltb c (2 * (24 + 4 * reach))
    go true g = let l = ltb-true (c / 2) (24 + 4 * reach) g in sym (lt-ltb c (2 * (24 + 4 * reach)) (omega arith))
    go false g = let l = ltb-false (c / 2) (24 + 4 * reach) g in sym (le-ltb c (2 * (24 + 4 * reach)) (omega arith))

pub limit_field : (reach : ℕ) {fields : Bool} → fields ≡ true → Limit fields reach (2 * (24 + 4 * reach))
unfolding code_names field_at_code
limit_field reach e = record { is = λ c small. rw e (field_limit reach c) }

pub limit_value : (reach : ℕ) {fields : Bool} → fields ≡ false → Limit fields reach (24 + 4 * reach)
unfolding code_names
limit_value reach e = record { is = λ c small. rw e (val_limit reach c) }

pub limit_none : (fields : Bool) (reach : ℕ) → 16_384 ≤ reach → Limit fields reach 65_536
unfolding code_names field_at_code
limit_none true reach h = record { is = λ c small. field_limit reach c ∙ lt-ltb c (2 * (24 + 4 * reach)) (omega arith) ∙ sym (lt-ltb c 65_536 small) }
limit_none false reach h = record { is = λ c small. val_limit reach c ∙ lt-ltb c (24 + 4 * reach) (omega arith) ∙ sym (lt-ltb c 65_536 small) }

pub ruleset limit_exits = (limit_field, limit_value, limit_none)
