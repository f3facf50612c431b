-- abstract_of and document 01's table: the codes count down as the numbers count up, so a code between the last and the first is that
-- of the row as far from the first.
use Prim.Native.Nat.{ℕ, ◌-◌, ◌<◌, ◌≤◌}
use native.Mathlib.Omega.{arith}
use mathlib.Core.Path.{◌≡◌, refl, sym, ap, ◌∙◌}
use mathlib.Core.Option.{none, some}
use borrow.Author.Tests.{ne_eqb}
use Rattle.std.specs.Prelude.{None, Some}
use Rattle.scope.specs.Abstract.{Abstract, NOFUNC, NOEXTERN, NONE, FUNC, EXTERN, ANY, EQ, I31, STRUCT, ARRAY, abstract_of}
use Rattle.scope.specs.Memory.{abstract_code}
use Rattle.type_abstract.specs.Heaps.{abstract_at, abstract_is}
use Rattle.type_abstract.proofs.Laws.{code_at}

-- each type's code is as far below the first as its number says
down_from_the_first : (a : Abstract) → abstract_of (115 - abstract_code a) ≡ some a
down_from_the_first NOFUNC = refl
down_from_the_first NOEXTERN = refl
down_from_the_first NONE = refl
down_from_the_first FUNC = refl
down_from_the_first EXTERN = refl
down_from_the_first ANY = refl
down_from_the_first EQ = refl
down_from_the_first I31 = refl
down_from_the_first STRUCT = refl
down_from_the_first ARRAY = refl

pub code_found : {code : ℕ} → 106 ≤ code → code ≤ 115 → Some (115 - code) ≡ abstract_is (abstract_of code)
code_found {code} least most =
    let k = 115 - code in
    let number : abstract_code (abstract_at k) ≡ k = code_at k (omega arith) in
    let there : 115 - abstract_code (abstract_at k) ≡ code = ap (λ (n : ℕ). 115 - n) number ∙ omega arith in
    let found : abstract_of code ≡ some (abstract_at k) = ap abstract_of (sym there) ∙ down_from_the_first (abstract_at k) in
    sym (ap abstract_is found ∙ ap Some number)

no_code : {code : ℕ} → (106 ≤ code → code ≤ 115 → ⊥) → abstract_of code ≡ none
no_code {code} outside =
    rw (
      ne_eqb code 115 (λ e. outside (omega arith) (omega arith)),
      ne_eqb code 114 (λ e. outside (omega arith) (omega arith)),
      ne_eqb code 113 (λ e. outside (omega arith) (omega arith)),
      ne_eqb code 112 (λ e. outside (omega arith) (omega arith)),
      ne_eqb code 111 (λ e. outside (omega arith) (omega arith)),
      ne_eqb code 110 (λ e. outside (omega arith) (omega arith)),
      ne_eqb code 109 (λ e. outside (omega arith) (omega arith)),
      ne_eqb code 108 (λ e. outside (omega arith) (omega arith)),
      ne_eqb code 107 (λ e. outside (omega arith) (omega arith)),
      ne_eqb code 106 (λ e. outside (omega arith) (omega arith)),
    )

pub code_below : {code : ℕ} → code < 106 → None ≡ abstract_is (abstract_of code)
code_below {code} h =
    let outside : 106 ≤ code → code ≤ 115 → ⊥ = λ least most. omega arith in sym (ap abstract_is (no_code outside))

pub code-above : {code : ℕ} → 115 < code → None ≡ abstract_is (abstract_of code)
code-above {code} h =
    let outside : 106 ≤ code → code ≤ 115 → ⊥ = λ least most. omega arith in sym (ap abstract_is (no_code outside))

pub ruleset finding = (code_found, code_below, code-above)
