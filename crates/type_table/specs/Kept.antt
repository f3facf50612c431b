-- What the table keeps of a definition while it is judged. A type number that names no type may have 32 bits; whatever it
-- is, it is out of reach, so it is kept as one number that is out of reach of every section. Of several supertypes,
-- which rule 1 refuses, the first and the greatest of the others are kept: the others are in reach when that one is.
use Rattle.std.specs.Prelude.{ℕ, min, max, List, [], ◌∷◌, map}
use Rattle.std.proofs.Math.Option.{Option, none, some}
use Rattle.scope.specs.Reading.{given}
use Rattle.scope.specs.Syntax.{Heap, abstract, defined, exact, Val, num, ref, Field, Form, struct, func, Definition}

-- no section has a type of this number
abbrev pub beyond : ℕ
beyond = 4_095

abbrev pub kept : ℕ → ℕ
kept x = min x beyond

abbrev pub kept_option : Option ℕ → Option ℕ
kept_option o = given o none (λ x. some (kept x))

abbrev pub kept_heap : Heap → Heap
kept_heap (abstract a) = abstract a
kept_heap (defined x) = defined (kept x)
kept_heap (exact x) = exact (kept x)

abbrev pub kept_val : Val → Val
kept_val (num n) = num n
kept_val (ref n h) = ref n (kept_heap h)

abbrev pub kept_field : Field → Field
kept_field f = record { holds = kept_val f.holds; mutable = f.mutable }

abbrev pub kept_form : Form → Form
kept_form (struct fs) = struct (map kept_field fs)
kept_form (func ps rs) = func (map kept_val ps) (map kept_val rs)

-- the greatest of a list, at least n
abbrev pub greatest : ℕ → List ℕ → ℕ
greatest n [] = n
greatest n (x ∷ xs) = greatest (max n x) xs

abbrev pub kept_supers : List ℕ → List ℕ
kept_supers [] = []
kept_supers (x ∷ []) = kept x ∷ []
kept_supers (x ∷ y ∷ more) = kept x ∷ kept (greatest y more) ∷ []

unfoldable pub kept_definition : Definition → Definition
kept_definition d =
    record {
      is_open = d.is_open;
      supers = kept_supers d.supers;
      describes = kept_option d.describes;
      descriptor = kept_option d.descriptor;
      form = kept_form d.form;
      from = d.from;
      to = d.to;
      reach = d.reach;
    }
