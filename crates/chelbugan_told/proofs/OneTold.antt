-- One statement, one answer: each part of what a host is told, and of the lent memory, is an equation with a value that the
-- input fixes; a run's answer is fixed by scope's `one-run`.
use Prim.Native.Nat.{ℕ}
use mathlib.Core.Path.{◌≡◌, sym, ap, ◌∙◌}
use mathlib.Core.List.{List}
use Rattle.scope.specs.Answers.{RunMemory}
use Rattle.scope.proofs.OneAnswer.{one-run}
use Rattle.chelbugan_told.specs.Values.{ran_kind, ran_values}
use Rattle.chelbugan_told.specs.Told.{SectionTold, TypeTold, BodyTold, RunTold}

pub one-section-told : {library section rows shared codes rows₁ shared₁ codes₁ rows₂ shared₂ codes₂ answer₁ answer₂ : List ℕ} {r q : ℕ} → SectionTold library section rows shared codes rows₁ shared₁ codes₁ r answer₁ → SectionTold library section rows shared codes rows₂ shared₂ codes₂ q answer₂ → (r ≡ q) × (answer₁ ≡ answer₂) × (rows₁ ≡ rows₂) × (shared₁ ≡ shared₂) × (codes₁ ≡ codes₂)
one-section-told a b = (a.kind ∙ sym b.kind, a.values ∙ sym b.values, a.rows_after ∙ sym b.rows_after, a.shared_after ∙ sym b.shared_after, a.codes_after ∙ sym b.codes_after)

pub one-type-told : {library section rows shared codes rows₁ shared₁ codes₁ rows₂ shared₂ codes₂ answer₁ answer₂ : List ℕ} {x r q : ℕ} → TypeTold library section x rows shared codes rows₁ shared₁ codes₁ r answer₁ → TypeTold library section x rows shared codes rows₂ shared₂ codes₂ q answer₂ → (r ≡ q) × (answer₁ ≡ answer₂) × (rows₁ ≡ rows₂) × (shared₁ ≡ shared₂) × (codes₁ ≡ codes₂)
one-type-told a b = (a.kind ∙ sym b.kind, a.values ∙ sym b.values, a.rows_after ∙ sym b.rows_after, a.shared_after ∙ sym b.shared_after, a.codes_after ∙ sym b.codes_after)

pub one-body-told : {library section s rows shared codes work rows₁ shared₁ codes₁ work₁ rows₂ shared₂ codes₂ work₂ answer₁ answer₂ : List ℕ} {x r q : ℕ} → BodyTold library section s x rows shared codes work rows₁ shared₁ codes₁ work₁ r answer₁ → BodyTold library section s x rows shared codes work rows₂ shared₂ codes₂ work₂ q answer₂ → (r ≡ q) × (answer₁ ≡ answer₂) × (rows₁ ≡ rows₂) × (shared₁ ≡ shared₂) × (codes₁ ≡ codes₂) × (work₁ ≡ work₂)
one-body-told a b = (a.kind ∙ sym b.kind, a.values ∙ sym b.values, a.rows_after ∙ sym b.rows_after, a.shared_after ∙ sym b.shared_after, a.codes_after ∙ sym b.codes_after, a.work_after ∙ sym b.work_after)

pub one-run-told : {library section s : List ℕ} {x budget : ℕ} {m m₁ m₂ : RunMemory} {r q : ℕ} {answer₁ answer₂ : List ℕ} → RunTold library section s x budget m m₁ r answer₁ → RunTold library section s x budget m m₂ q answer₂ → (r ≡ q) × (answer₁ ≡ answer₂) × (m₁ ≡ m₂)
one-run-told a b =
    let (answer, memory) = one-run a.tried b.tried
    in (
      a.told.kind ∙ ap ran_kind answer ∙ sym b.told.kind,
      a.told.values ∙ ap ran_values answer ∙ sym b.told.values,
      memory,
    )
