-- What the readers before a definition's form answer, by the definitions of document 01.
use Rattle.std.specs.Prelude.{ℕ, max, cond, List, eqb}
use Rattle.std.proofs.Math.Option.{Option, some}
use Rattle.scope.specs.Reading.{Reader, got, then}
use Rattle.scope.specs.Numbers.{u32}
use Rattle.scope.specs.Syntax.{first_of}
use Rattle.scope.specs.Sections.{Head, head_at, clause_at, describes_code, descriptor_code}
use Rattle.scope.specs.Memory.{flag, or_zero}
use Rattle.type_table.specs.Kept.{kept_option, kept_supers}
use Rattle.type_table.specs.View.{further_of}
use Rattle.section_clauses.specs.declared.Links.{Links}
use Rattle.section_clauses.specs.declared.Head as told_head
use Rattle.section_clauses.specs.declared.Clauses as told_clauses
use Rattle.section_clauses.specs.declared.Front as told_front

abbrev pub first_link : ℕ → ℕ → ℕ → ℕ
first_link count first link = cond (eqb count 0) link first

abbrev pub further_link : ℕ → ℕ → ℕ → ℕ
further_link count further link = cond (eqb count 0) further (max further link)

-- the links of supertypes as they are kept
abbrev pub first_of_kept : List ℕ → ℕ
first_of_kept xs = or_zero (first_of (kept_supers xs))

abbrev pub further_of_kept : List ℕ → ℕ
further_of_kept xs = or_zero (further_of (kept_supers xs))

abbrev pub links_of : List ℕ → Links
links_of xs = record { first = first_of_kept xs; further = further_of_kept xs }

-- 50 or 4F was read
abbrev pub opened_of : ℕ → List ℕ → told_head.Head
opened_of opens xs = record { opens = opens; supers = links_of xs }

abbrev pub head_of : Head → told_head.Head
head_of h = opened_of (flag h.is_open) h.supers

abbrev pub named_at : Reader (Option ℕ)
named_at s at = then (u32 s at) (λ x next. got (some x) next)

abbrev pub clause_of : Option ℕ → ℕ
clause_of o = or_zero (kept_option o)

-- all that stands before a form

pub record Clauses : Type 0 where
  pub describes : Option ℕ
  pub descriptor : Option ℕ

abbrev pub clauses_at : Reader Clauses
clauses_at s at =
    then (clause_at describes_code s at) (λ d next.
    then (clause_at descriptor_code s next) (λ e form. got (record { describes = d; descriptor = e }) form))

abbrev pub clauses_of : Clauses → told_clauses.Clauses
clauses_of c = record { described = clause_of c.describes; describing = clause_of c.descriptor }

pub record FrontOf : Type 0 where
  pub head : Head
  pub clauses : Clauses

abbrev pub front_at : Reader FrontOf
front_at s at = then (head_at s at) (λ h clauses. then (clauses_at s clauses) (λ c form. got (record { head = h; clauses = c }) form))

abbrev pub front_of : FrontOf → told_front.Front
front_of f = record { head = head_of f.head; clauses = clauses_of f.clauses }
