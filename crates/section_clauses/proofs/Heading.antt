-- Each way out of the readers of heads and clauses: the bytes that led there make the definition give the same links and
-- place.
use Prim.Native.Nat.{ℕ, ◌+◌}
use mathlib.Core.Path.{◌≡◌, refl, sym, ◌∙◌}
use mathlib.Core.Bool.{true, false}
use mathlib.Core.Option.{Option}
use mathlib.Core.List.{List}
use lib.ListN.{get_elem?}
use borrow.Author.Tests.{eq-eqb, ne_eqb}
use Rattle.std.specs.Prelude.{Result, Ok, Err, None, Some}
use Rattle.scope.specs.declared.Refused.{Refused}
use Rattle.scope.specs.Told.{Maybe, no_at, told}
use Rattle.scope.specs.Refusals.{bytes_end}
use Rattle.scope.specs.Reading.{Read, got, refused, then}
use Rattle.scope.specs.Numbers.{u32}
use Rattle.scope.specs.Sections.{supers_at, Head, head_at, clause_at, describes_code, descriptor_code}
use Rattle.scope.proofs.Told.{told_got, told_refused, passed, passes}
use Rattle.number_bytes.specs.Bytes.{ByteAt}
use Rattle.number_values.specs.Values.{natural_is}
use Rattle.number_bytes.proofs.Laws.{next_fits, byte_got, byte_none}
use Rattle.number_values.proofs.Laws.{natural_got}
use Rattle.type_table.specs.Kept.{kept}
use Rattle.section_clauses.specs.declared.Links.{Links}
use Rattle.section_clauses.specs.declared.Head as told_head
use Rattle.section_clauses.specs.declared.Clauses as told_clauses
use Rattle.section_clauses.specs.declared.Front as told_front
use Rattle.section_clauses.specs.Links.{links_of, opened_of, head_of, named_at, clause_of, Clauses, clauses_at, clauses_of, front_at, front_of}
use Rattle.section_clauses.proofs.Listing.{link_fits}

-- sub_at

sub_read : (opens : ℕ) (o : Read (List ℕ)) {supers : Links} {next : ℕ} (xs : List ℕ) → o ≡ got xs next → supers ≡ links_of xs → let head : told_head.Head = record { opens = opens; supers = supers } in Ok (head, next) ≡ told (opened_of opens) o
sub_read opens o xs read links = rw (read, links)

pub sub_got : (opens : ℕ) (o : Read (List ℕ)) {supers : Links} {next : ℕ} → Ok (supers, next) ≡ told links_of o → let head : told_head.Head = record { opens = opens; supers = supers } in Ok (head, next) ≡ told (opened_of opens) o
sub_got opens o p = let (xs, read, links) = told_got links_of o p in sub_read opens o xs read links

pub sub_refused : (opens : ℕ) (o : Read (List ℕ)) {no : Refused} → Err no ≡ told links_of o → Err no ≡ told (opened_of opens) o
sub_refused opens o p = rw (told_refused links_of o p)

pub ruleset sub_exits = (passed, sub_got, sub_refused)

-- head_at

opened : (o : Read (List ℕ)) → told (opened_of 1) o ≡ told head_of (then o (λ xs next. got (record { is_open = true; supers = xs }) next))
opened (got xs n) = refl
opened (refused n p) = refl

closed : (o : Read (List ℕ)) → told (opened_of 0) o ≡ told head_of (then o (λ xs next. got (record { is_open = false; supers = xs }) next))
closed (got xs n) = refl
closed (refused n p) = refl

-- neither 50 nor 4F
abbrev no_head : told_head.Head
no_head = record { opens = 0; supers = record { first = 0; further = 0 } }

module _ {s : List ℕ} {at : ℕ} {r : Maybe ℕ} (a : ByteAt s at r) where
  pub head_missing : r ≡ None → Err (no_at bytes_end at) ≡ told head_of (head_at s at)
  unfolding head_at
  head_missing e = rw (byte_none (get_elem? s at) a.is e)

  module _ {b : ℕ} (e : r ≡ Some b) where
    pub head_open : {q : Result (told_head.Head × ℕ) Refused} → b ≡ 0x50 → q ≡ told (opened_of 1) (supers_at s (at + 1)) → q ≡ told head_of (head_at s at)
    unfolding head_at
    head_open f g = g ∙ opened (supers_at s (at + 1)) ∙ sym (rw (byte_got (get_elem? s at) a.is e, eq-eqb b 0x50 f))

    module _ (f : b ≡ 0x50 → ⊥) where
      pub head_final : {q : Result (told_head.Head × ℕ) Refused} → b ≡ 0x4F → q ≡ told (opened_of 0) (supers_at s (at + 1)) → q ≡ told head_of (head_at s at)
      unfolding head_at
      head_final h g = g ∙ closed (supers_at s (at + 1)) ∙ sym (rw (byte_got (get_elem? s at) a.is e, ne_eqb b 0x50 f, eq-eqb b 0x4F h))

      pub head_neither : (b ≡ 0x4F → ⊥) → Ok (no_head, at) ≡ told head_of (head_at s at)
      unfolding head_at
      head_neither h = rw (byte_got (get_elem? s at) a.is e, ne_eqb b 0x50 f, ne_eqb b 0x4F h)

pub ruleset head_exits = (next_fits, head_missing, head_open, head_final, head_neither)

-- named_at and clause_at

pub named_got : (s : List ℕ) (at : ℕ) {x next k : ℕ} → Ok (x, next) ≡ natural_is (u32 s at) → k ≡ kept x → Ok ((k + 1), next) ≡ told clause_of (named_at s at)
named_got s at e f = rw (natural_got (u32 s at) e refl, f)

pub ruleset named_exits = (passed, passes, named_got, link_fits)

module _ {s : List ℕ} {at : ℕ} {r : Maybe ℕ} (a : ByteAt s at r) where
  pub clause_missing : (code : ℕ) → r ≡ None → Err (no_at bytes_end at) ≡ told clause_of (clause_at code s at)
  unfolding clause_at
  clause_missing code e = rw (byte_none (get_elem? s at) a.is e)

  module _ {b code : ℕ} (e : r ≡ Some b) where
    pub clause_there : {q : Result (ℕ × ℕ) Refused} → b ≡ code → q ≡ told clause_of (named_at s (at + 1)) → q ≡ told clause_of (clause_at code s at)
    unfolding clause_at
    clause_there f g = g ∙ sym (rw (byte_got (get_elem? s at) a.is e, eq-eqb b code f))

    pub clause_absent : (b ≡ code → ⊥) → Ok (0, at) ≡ told clause_of (clause_at code s at)
    unfolding clause_at
    clause_absent f = rw (byte_got (get_elem? s at) a.is e, ne_eqb b code f)

pub ruleset clause_exits = (next_fits, clause_missing, clause_there, clause_absent)

-- clauses_at

module _ (s : List ℕ) (at : ℕ) {described next : ℕ} (a : Ok (described, next) ≡ told clause_of (clause_at describes_code s at)) where
  no_descriptor : (d : Option ℕ) → clause_at describes_code s at ≡ got d next → {no : Refused} → Err no ≡ told clause_of (clause_at descriptor_code s next) → Err no ≡ told clauses_of (clauses_at s at)
  no_descriptor d read f = passes clause_of clauses_of (clause_at descriptor_code s next) (λ e form. got (record { describes = d; descriptor = e }) form) f ∙ sym (rw read)

  pub clauses_no-descriptor : {no : Refused} → Err no ≡ told clause_of (clause_at descriptor_code s next) → Err no ≡ told clauses_of (clauses_at s at)
  clauses_no-descriptor f = let (d, read, same) = told_got clause_of (clause_at describes_code s at) a in no_descriptor d read f

  two_read : {describing form : ℕ} (d e : Option ℕ) → clause_at describes_code s at ≡ got d next → described ≡ clause_of d → clause_at descriptor_code s next ≡ got e form → describing ≡ clause_of e → let clauses : told_clauses.Clauses = record { described = described; describing = describing } in Ok (clauses, form) ≡ told clauses_of (clauses_at s at)
  two_read d e read same more other = rw (read, more, same, other)

  pub clauses_got : {describing form : ℕ} → Ok (describing, form) ≡ told clause_of (clause_at descriptor_code s next) → let clauses : told_clauses.Clauses = record { described = described; describing = describing } in Ok (clauses, form) ≡ told clauses_of (clauses_at s at)
  clauses_got b =
      let (d, read, same) = told_got clause_of (clause_at describes_code s at) a in
      let (e, more, other) = told_got clause_of (clause_at descriptor_code s next) b in
      two_read d e read same more other

pub ruleset clauses_exits = (passed, passes, clauses_no-descriptor, clauses_got)

-- front_at

module _ (s : List ℕ) (at : ℕ) {head : told_head.Head} {next : ℕ} (a : Ok (head, next) ≡ told head_of (head_at s at)) where
  no_clauses : (h : Head) → head_at s at ≡ got h next → {no : Refused} → Err no ≡ told clauses_of (clauses_at s next) → Err no ≡ told front_of (front_at s at)
  no_clauses h read f = passes clauses_of front_of (clauses_at s next) (λ c form. got (record { head = h; clauses = c }) form) f ∙ sym (rw read)

  pub front_no-clauses : {no : Refused} → Err no ≡ told clauses_of (clauses_at s next) → Err no ≡ told front_of (front_at s at)
  front_no-clauses f = let (h, read, same) = told_got head_of (head_at s at) a in no_clauses h read f

  both_read : {clauses : told_clauses.Clauses} {form : ℕ} (h : Head) (c : Clauses) → head_at s at ≡ got h next → head ≡ head_of h → clauses_at s next ≡ got c form → clauses ≡ clauses_of c → let front : told_front.Front = record { head = head; clauses = clauses } in Ok (front, form) ≡ told front_of (front_at s at)
  both_read h c read same more other = rw (read, more, same, other)

  pub front_got : {clauses : told_clauses.Clauses} {form : ℕ} → Ok (clauses, form) ≡ told clauses_of (clauses_at s next) → let front : told_front.Front = record { head = head; clauses = clauses } in Ok (front, form) ≡ told front_of (front_at s at)
  front_got b =
      let (h, read, same) = told_got head_of (head_at s at) a in
      let (c, more, other) = told_got clauses_of (clauses_at s next) b in
      both_read h c read same more other

pub ruleset front_exits = (passed, passes, front_no-clauses, front_got)
