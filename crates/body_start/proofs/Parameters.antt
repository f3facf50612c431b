-- The parameters' types, one word after the other: a turn puts one more after the first i.
use Prim.Native.Nat.{ℕ, ◌+◌, ◌%◌, ◌<◌}
use mathlib.Core.Path.{◌≡◌, ap, ◌∙◌}
use mathlib.Core.List.{List}
use native.Mathlib.Omega.{arith}
use native.Mathlib.Nat.{mod-eq_of_lt}
use lib.ListN.{length, set, get_or}
use borrow.Author.Count.{below_more}
use Rattle.lent_u16.specs.Words.{WordAt}
use Rattle.lent_u16.proofs.Stores.{Stored, stored}
use Rattle.type_table.specs.View.{val_at_code}
use Rattle.body_state.specs.Layout.{word_bound, code_bound}
use Rattle.body_state.specs.State.{val_at_word}
use Rattle.body_start.specs.Beginning.{ParametersPut}

pub val_at_word_lem : (w : ℕ) → w < code_bound → val_at_word w ≡ val_at_code w
unfolding val_at_word
val_at_word_lem w h = ap val_at_code (mod-eq_of_lt h)

pub parameters_turn : {codes work₀ work : List ℕ} {first i : ℕ} → ParametersPut codes work₀ work first i → i < length work₀ → {w : ℕ} → WordAt codes (first + i) w → {work' : List ℕ} → work' ≡ set work i (w % word_bound) → ParametersPut codes work₀ work' first (i + 1)
parameters_turn {codes} {work₀} {work} {first} {i} p h {w} a {work'} e =
    let low : w < code_bound = omega (arith, a.small) in
    let store : Stored work work' i w = stored word_bound e (omega arith) (omega (arith, p.size)) in
    record {
      types =
          below_more (λ k. val_at_word (get_or work' k 0) ≡ val_at_code (get_or codes (first + k) 0)) i
          (λ k l. ap val_at_word (store.others k (λ z. omega arith)) ∙ p.types k l)
          (rw (store.here, ← a.is) (val_at_word_lem w low));
      others = λ k l. store.others k (λ z. omega arith) ∙ p.others k (omega arith);
      size = store.size ∙ p.size;
    }
