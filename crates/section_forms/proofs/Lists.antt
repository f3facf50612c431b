-- Lists of entries as codes. The loop and the definition `entries` walk the same bytes: what is done, put before what the
-- definition reads from here, is what it reads from the start; and the words that were put are the codes that are done.
use Prim.Native.Nat.{ℕ, zero, suc, ◌+◌, ◌-◌, ◌%◌, ◌≤◌, ◌<◌}
use mathlib.Core.Path.{◌≡◌, refl, sym, ap, ap₂, ◌∙◌}
use mathlib.Core.Bool.{Bool, true, false}
use mathlib.Core.List.{List, [], ◌∷◌, ◌++◌, append_assoc, append-nil}
use native.Mathlib.Omega.{arith}
use native.Mathlib.Nat.{mod-eq_of_lt}
use lib.ListN.{length, set, length-append}
use mir.Syntax.{w64}
use mir.Val.{Fits}
use Rattle.scope.specs.Told.{no_at}
use Rattle.std.specs.Prelude.{Result, Ok, Err, IsErrAnd}
use Rattle.scope.specs.declared.Refused.{Refused}
use Rattle.scope.specs.Refusals.{oversize}
use Rattle.scope.specs.Sizes.{most_each}
use Rattle.scope.specs.Reading.{Read, got, refused, Reader, then, entries}
use Rattle.scope.specs.Sections.{val_at, field_at}
use Rattle.scope.proofs.Forward.{Ends, stops, reaches, Takes, val_takes, field_takes, never_back}
use Rattle.scope.proofs.Impossible.{contradiction}
use Rattle.scope.proofs.Told.{passed}
use Rattle.lent_u16.specs.Words.{word_limit}
use Rattle.type_table.proofs.Puts.{Puts, puts_none, puts_one, puts_more, puts_length}
use Rattle.type_read.specs.Codes.{coded_is, val_code_kept, field_code_kept}
use Rattle.type_read.proofs.Vals.{coded_got, coded_refused}
use Rattle.type_read.proofs.Fields.{val_code_most, field_code_most}
use Rattle.section_forms.specs.Reads.{Room, itself, coding, code_at, entries_is, EntriesRead}

-- code_at

coded-coding : {A : Type 0} (f : A → ℕ) (o : Read A) → coded_is f o ≡ coded_is itself (coding f o)
coded-coding f (got x n) = refl
coded-coding f (refused n p) = refl

module _ (s : List ℕ) (at : ℕ) {r : Result (ℕ × ℕ) Refused} {fields : Bool} where
  pub code_field : fields ≡ true → r ≡ coded_is field_code_kept (field_at s at) → r ≡ coded_is itself (code_at fields s at)
  unfolding code_at
  code_field e f = rw e (f ∙ coded-coding field_code_kept (field_at s at))

  pub code_val : fields ≡ false → r ≡ coded_is val_code_kept (val_at s at) → r ≡ coded_is itself (code_at fields s at)
  unfolding code_at
  code_val e f = rw e (f ∙ coded-coding val_code_kept (val_at s at))

pub ruleset code_exits = (code_field, code_val)

coding_ends : {A : Type 0} (f : A → ℕ) {lo hi : ℕ} {o : Read A} → Ends lo hi o → Ends lo hi (coding f o)
coding_ends f stops = stops
coding_ends f (reaches a b) = reaches a b

pub code-takes : (fields : Bool) → Takes (code_at fields)
unfolding code_at
code-takes true = record { takes = λ s at. coding_ends field_code_kept (field_takes.takes s at) }
code-takes false = record { takes = λ s at. coding_ends val_code_kept (val_takes.takes s at) }

code_most : (fields : Bool) (s : List ℕ) (at : ℕ) {c next : ℕ} → code_at fields s at ≡ got c next → c < word_limit
unfolding code_at
code_most true s at {c} {next} e = let h = field_code_most (field_at s at) refl (coded-coding field_code_kept (field_at s at) ∙ ap (coded_is itself) e) in omega arith
code_most false s at {c} {next} e = let h = val_code_most (val_at s at) refl (coded-coding val_code_kept (val_at s at) ∙ ap (coded_is itself) e) in omega arith

-- the loop

-- what is done, put before what follows
abbrev pub onto : {A : Type 0} → List A → Read (List A) → Read (List A)
onto done (got xs stop) = got (done ++ xs) stop
onto done (refused n p) = refused n p

pub record Listed (fields : Bool) (n : ℕ) (s : List ℕ) (at : ℕ) (codes₀ codes : List ℕ) (used next count : ℕ) : Type 0 where
  pub done : List ℕ
  pub counted : length done ≡ count
  pub few : count ≤ most_each
  pub fewer : count ≤ n
  pub same : entries (code_at fields) most_each n s at ≡ onto done (entries (code_at fields) (most_each - count) (n - count) s next)
  pub puts : Puts codes₀ codes used done
  pub ahead : at + count ≤ next
  pub inside : next ≤ length s

pub onto-none : {A : Type 0} (o : Read (List A)) → o ≡ onto [] o
onto-none (got xs stop) = refl
onto-none (refused n p) = refl

pub onto_more : {A : Type 0} (done : List A) (x : A) (o : Read (List A)) → onto done (then o (λ xs stop. got (x ∷ xs) stop)) ≡ onto (done ++ x ∷ []) o
onto_more done x (got xs stop) = simp append_assoc
onto_more done x (refused n p) = refl

pub entries-step : {A : Type 0} (one : Reader A) (room n : ℕ) (s : List ℕ) (at : ℕ) {x : A} {next : ℕ} → 0 < room → 0 < n → one s at ≡ got x next → entries one room n s at ≡ then (entries one (room - 1) (n - 1) s next) (λ xs stop. got (x ∷ xs) stop)
unfolding entries
entries-step one zero n s at p q e = absurd (omega arith)
entries-step one (suc room) zero s at p q e = absurd (omega arith)
entries-step one (suc room) (suc n) s at p q e =
    let a : suc room - 1 ≡ room = omega arith in let b : suc n - 1 ≡ n = omega arith in rw (e, a, b)

pub entries_refused : {A : Type 0} (one : Reader A) (room n : ℕ) (s : List ℕ) (at : ℕ) {k place : ℕ} → 0 < room → 0 < n → one s at ≡ refused k place → entries one room n s at ≡ refused k place
unfolding entries
entries_refused one zero n s at p q e = absurd (omega arith)
entries_refused one (suc room) zero s at p q e = absurd (omega arith)
entries_refused one (suc room) (suc n) s at p q e = rw e

pub entries_over : {A : Type 0} (one : Reader A) (room n : ℕ) (s : List ℕ) (at : ℕ) → room ≤ 0 → 0 < n → entries one room n s at ≡ refused oversize at
unfolding entries
entries_over one zero zero s at p q = absurd (omega arith)
entries_over one zero (suc n) s at p q = refl
entries_over one (suc room) n s at p q = absurd (omega arith)

pub entries-done : {A : Type 0} (one : Reader A) (room n : ℕ) (s : List ℕ) (at : ℕ) → n ≤ 0 → entries one room n s at ≡ got [] at
unfolding entries
entries-done one room zero s at q = refl
entries-done one room (suc n) s at q = absurd (omega arith)

pub listed-first : {s codes : List ℕ} {at used : ℕ} (n : ℕ) (fields : Bool) → Room s codes at used → Listed fields n s at codes codes used at 0
listed-first {s} {codes} {at} {used} n fields room =
    record {
      done = [];
      counted = refl;
      few = omega arith;
      fewer = omega arith;
      same = let e : n - 0 ≡ n = omega arith in rw e (onto-none (entries (code_at fields) most_each n s at));
      puts = puts_none codes used (omega (arith, room.behind, room.inside, room.enough));
      ahead = omega arith;
      inside = room.inside;
    }

module _ {fields : Bool} {n : ℕ} {s : List ℕ} {at : ℕ} {codes₀ codes : List ℕ} {used next count : ℕ} (p : Listed fields n s at codes₀ codes used next count) where
  no_list : {r : Result (ℕ × ℕ) Refused} → ((xs : List ℕ) (stop : ℕ) → entries (code_at fields) most_each n s at ≡ got xs stop → ⊥) → r ≡ entries_is (entries (code_at fields) most_each n s at) → EntriesRead (code_at fields) n s at codes₀ codes used r
  no_list never e = record { answer = e; memory = λ xs stop f. absurd (never xs stop f); size = puts_length p.puts }

  refused_list : {no : Refused} → entries (code_at fields) most_each n s at ≡ refused no.number no.at → EntriesRead (code_at fields) n s at codes₀ codes used (Err no)
  refused_list e = no_list (λ xs stop f. contradiction cc) (rw e)

  pub listed-done : n ≤ count → EntriesRead (code_at fields) n s at codes₀ codes used (Ok (n, next))
  listed-done h =
      let all : entries (code_at fields) most_each n s at ≡ got (p.done ++ []) next = p.same ∙ ap (onto p.done) (entries-done (code_at fields) (most_each - count) (n - count) s next (omega arith)) in
      let long : length (p.done ++ []) ≡ n = length-append p.done [] ∙ (let q = p.counted in let few = p.fewer in omega arith) in
      record {
        answer = rw (all, long);
        memory = λ xs stop f. let q : p.done ++ [] ≡ xs = cc in rw (← q, append-nil) p.puts;
        size = puts_length p.puts;
      }

  module _ (more : count < n) where
    pub listed_over : most_each ≤ count → EntriesRead (code_at fields) n s at codes₀ codes used (Err (no_at oversize next))
    listed_over h = refused_list (p.same ∙ ap (onto p.done) (entries_over (code_at fields) (most_each - count) (n - count) s next (omega arith) (omega arith)))

    module _ (room : count < most_each) where
      pub listed_refused : {no : Refused} {r : Result (ℕ × ℕ) Refused} → Err no ≡ coded_is itself (code_at fields s next) → IsErrAnd r (λ y. y ≡ no) → EntriesRead (code_at fields) n s at codes₀ codes used r
      listed_refused e is =
          rw (passed is refl)
          (refused_list
          (p.same
          ∙ ap (onto p.done) (entries_refused (code_at fields) (most_each - count) (n - count) s next (omega arith) (omega arith) (coded_refused itself (code_at fields s next) e refl))))

      module _ {code after : ℕ} (e : Ok (code, after) ≡ coded_is itself (code_at fields s next)) where
        code_read : code_at fields s next ≡ got code after
        code_read = let (x, read, same) = coded_got itself (code_at fields s next) e refl in read ∙ ap (λ (c : ℕ). got c after) (sym same)

        pub listed_turn : {codes' : List ℕ} → codes' ≡ set codes (used + count) (code % word_limit) → Room s codes₀ at used → Listed fields n s at codes₀ codes' used after (count + 1)
        listed_turn {codes'} f space =
            let small : code % word_limit ≡ code = mod-eq_of_lt (code_most fields s next code_read) in
            let ends = never_back (code-takes fields) s next code_read in
            let q : length p.done ≡ count = p.counted in
            let size : length codes ≡ length codes₀ = puts_length p.puts in
            let here : used + count < length codes = omega (arith, space.behind, space.enough, p.ahead, ends.0, ends.1) in
            let one : Puts codes codes' (used + count) (code ∷ []) = rw (f, small) (puts_one codes (used + count) code here) in
            record {
              done = p.done ++ code ∷ [];
              counted = length-append p.done (code ∷ []) ∙ (omega arith);
              few = omega arith;
              fewer = omega arith;
              same =
                  p.same
                  ∙ ap (onto p.done) (entries-step (code_at fields) (most_each - count) (n - count) s next (omega arith) (omega arith) code_read)
                  ∙ onto_more p.done code (entries (code_at fields) (most_each - count - 1) (n - count - 1) s after)
                  ∙ ap₂ (λ (i j : ℕ). onto (p.done ++ code ∷ []) (entries (code_at fields) i j s after)) (omega arith) (omega arith);
              puts = puts_more p.puts (rw q one);
              ahead = omega (arith, p.ahead, ends.0);
              inside = ends.1;
            }

  pub place_fits : count < n → count < most_each → Room s codes₀ at used → Fits w64 (used + count)
  place_fits h k space = record { fits = omega (arith, space.behind, space.inside, space.small) }

  pub listed_size : length codes ≡ length codes₀
  listed_size = puts_length p.puts

pub ruleset list_exits = (listed-first, listed-done, listed_over, listed_refused, listed_turn, place_fits, listed_size)
