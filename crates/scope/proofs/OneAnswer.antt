-- Pinned down, answer by answer: any two results, answer and memory, that meet the statement of one public call on the same
-- input are the same. Each part of a statement is an equation with one value, so two that meet it are equal to that.
use Prim.Native.Nat.{ℕ}
use mathlib.Core.Path.{◌≡◌, sym, ◌∙◌}
use mathlib.Core.List.{List}
use Rattle.std.specs.Prelude.{Result}
use Rattle.scope.specs.declared.Rejected.{Rejected}
use Rattle.scope.specs.declared.Asked.{Asked}
use Rattle.scope.specs.declared.Ran.{Ran}
use Rattle.scope.specs.Answers.{SectionJudged, TypeAsked, TypeHanded, BodyJudged, RunMemory, RunTried}

same : {A : Type 0} {x y z : A} → x ≡ z → y ≡ z → x ≡ y
same p q = p ∙ sym q

pub one-section : {library s rows shared codes rows₁ shared₁ codes₁ rows₂ shared₂ codes₂ : List ℕ} {r q : Result ℕ Rejected} → SectionJudged library s rows shared codes rows₁ shared₁ codes₁ r → SectionJudged library s rows shared codes rows₂ shared₂ codes₂ q → (r ≡ q) × (rows₁ ≡ rows₂) × (shared₁ ≡ shared₂) × (codes₁ ≡ codes₂)
one-section a b = (same a.answer b.answer, same a.rows_after b.rows_after, same a.shared_after b.shared_after, same a.codes_after b.codes_after)

pub one_type : {library s : List ℕ} {x : ℕ} {rows shared codes rows₁ shared₁ codes₁ rows₂ shared₂ codes₂ : List ℕ} {r q : Asked} → TypeAsked library s x rows shared codes rows₁ shared₁ codes₁ r → TypeAsked library s x rows shared codes rows₂ shared₂ codes₂ q → (r ≡ q) × (rows₁ ≡ rows₂) × (shared₁ ≡ shared₂) × (codes₁ ≡ codes₂)
one_type a b = (same a.answer b.answer, same a.rows_after b.rows_after, same a.shared_after b.shared_after, same a.codes_after b.codes_after)

pub one_part : {library s : List ℕ} {x : ℕ} {rows shared codes rows₁ shared₁ codes₁ rows₂ shared₂ codes₂ part other : List ℕ} → TypeHanded library s x rows shared codes rows₁ shared₁ codes₁ part → TypeHanded library s x rows shared codes rows₂ shared₂ codes₂ other → (part ≡ other) × (rows₁ ≡ rows₂) × (shared₁ ≡ shared₂) × (codes₁ ≡ codes₂)
one_part a b = (same a.bytes b.bytes, same a.rows_after b.rows_after, same a.shared_after b.shared_after, same a.codes_after b.codes_after)

pub one-body : {library section s : List ℕ} {x : ℕ} {rows shared codes work rows₁ shared₁ codes₁ work₁ rows₂ shared₂ codes₂ work₂ : List ℕ} {r q : Result ℕ Rejected} → BodyJudged library section s x rows shared codes work rows₁ shared₁ codes₁ work₁ r → BodyJudged library section s x rows shared codes work rows₂ shared₂ codes₂ work₂ q → (r ≡ q) × (rows₁ ≡ rows₂) × (shared₁ ≡ shared₂) × (codes₁ ≡ codes₂) × (work₁ ≡ work₂)
one-body a b = (same a.answer b.answer, same a.rows_after b.rows_after, same a.shared_after b.shared_after, same a.codes_after b.codes_after, same a.work_after b.work_after)

one_state_lem : {library section s : List ℕ} {x budget : ℕ} {m m₁ m₂ : RunMemory} {r q : Ran} → RunTried library section s x budget m m₁ r → RunTried library section s x budget m m₂ q → m₁.state ≡ m₂.state
one_state_lem a b =
    λ i.
    record {
      counts = same a.counts b.counts i;
      objects = same a.objects b.objects i;
      cells = same a.cells b.cells i;
      locals = same a.locals b.locals i;
      operands = same a.operands b.operands i;
      blocks = same a.blocks b.blocks i;
    }

pub one-run : {library section s : List ℕ} {x budget : ℕ} {m m₁ m₂ : RunMemory} {r q : Ran} → RunTried library section s x budget m m₁ r → RunTried library section s x budget m m₂ q → (r ≡ q) × (m₁ ≡ m₂)
one-run a b = (
  same a.answer b.answer,
  λ i.
      record {
        rows = same a.rows_after b.rows_after i;
        shared = same a.shared_after b.shared_after i;
        codes = same a.codes_after b.codes_after i;
        work = same a.work_after b.work_after i;
        ends = same a.ends_after b.ends_after i;
        state = one_state_lem a b i;
      },
)
