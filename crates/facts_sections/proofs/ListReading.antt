-- A list is read exactly where it is written: a count, then as many entries one after the other, for which there is room.
-- One law for every kind of entry, and for entries that depend on the count, as a group's definitions do.
use Prim.Native.Nat.{ℕ, zero, suc, ◌+◌, ◌≤◌}
use native.Mathlib.Omega.{arith}
use mathlib.Core.Path.{◌≡◌, refl, ap}
use mathlib.Core.Logic.{◌⊎◌, inl, inr}
use mathlib.Core.List.Memᴰ
use mathlib.Core.List.{List, [], ◌∷◌, ◌++◌, Memᴰ}
use lib.ListN.{length}
use Rattle.scope.specs.Sizes.{most_each}
use Rattle.scope.specs.Reading.{got, Reader, then, entries}
use Rattle.scope.specs.Numbers.{u32}
use Rattle.scope.specs.Sections.{few_at, supers_at}
use Rattle.facts_sections.specs.WithinSizes.{Each}
use Rattle.facts_sections.specs.Writing.{Unsigned, Anywhere, Entries, no_entry, an_entry, Counted, count_and_entries, Listed, listed}
use Rattle.facts_sections.specs.Between.{Between, nothing}
use Rattle.facts_sections.proofs.Between.{join, split_at, behind}
use Rattle.facts_sections.proofs.Readers.{Found, Reads, AnySize, refused_is_not_got, then_got, found_got}
use Rattle.facts_sections.proofs.NumberReading.{unsigned_reads}

-- Every element is such

module _ {A : Type 0} {P : A → Type 0} where
  pub each_none : Each P []
  each_none = record { such = λ x m. absurd (Memᴰ.not-nil m) }

  pub each_more : {x : A} {xs : List A} → P x → Each P xs → Each P (x ∷ xs)
  each_more {x} {xs} p later = record { such = λ y m. go y (Memᴰ.cases_cons m) }
    where
      go : (y : A) → (y ≡ x) ⊎ Memᴰ y xs → P y
      go y (inl here) = rw here p
      go y (inr there) = later.such y there

  pub each_first : {x : A} {xs : List A} → Each P (x ∷ xs) → P x
  each_first {x} each = each.such x (Memᴰ.head refl)

  pub each_later : {x : A} {xs : List A} → Each P (x ∷ xs) → Each P xs
  each_later each = record { such = λ y m. each.such y (Memᴰ.tail m) }

-- Entries: so many of them, for which there is room

pub record Sized {A : Type 0} (Small : A → Type 0) (n room : ℕ) (xs : List A) : Type 0 where
  pub each : Each Small xs
  pub count : length xs ≡ n
  pub fits : length xs ≤ room

module _ {A : Type 0} {W : ℕ → List ℕ → A → Type 0} {Small : A → Type 0} {one : Reader A} (reads : Reads W Small one) where
  entry_found : {n room : ℕ} {s : List ℕ} {at mid end : ℕ} {x : A} {xs : List A}
      → Found W Small s at x mid → Found (Entries W) (Sized Small n room) s mid xs end → Found (Entries W) (Sized Small (suc n) (suc room)) s at (x ∷ xs) end
  entry_found first later =
      let sized = later.small in
      record {
        bytes = first.bytes ++ later.bytes;
        lies = join first.lies later.lies;
        writes = an_entry first.writes (behind (Entries W) first.lies later.writes);
        small = record { each = each_more first.small sized.each; count = ap suc sized.count; fits = let h = sized.fits in omega arith };
      }

  pub entries_found : (room n : ℕ) (s : List ℕ) (at : ℕ) {xs : List A} {next : ℕ} → entries one room n s at ≡ got xs next → Found (Entries W) (Sized Small n room) s at xs next
  unfolding entries
  entries_found room zero s at e = found_got e (record { bytes = []; lies = nothing; writes = no_entry; small = record { each = each_none; count = refl; fits = omega arith } })
  entries_found zero (suc n) s at e = absurd (refused_is_not_got e)
  entries_found (suc room) (suc n) s at e =
      let (x, mid, read, f) = then_got (one s at) _ e in
      let (xs, end, more, g) = then_got (entries one room n s mid) _ f in
      found_got g (entry_found (reads.sound s at read) (entries_found room n s mid more))

  pub entries_read : (room : ℕ) {s w : List ℕ} {at next : ℕ} {xs : List A} → Between s at w next → Entries W at w xs → Each Small xs → length xs ≤ room → entries one room (length xs) s at ≡ got xs next
  unfolding entries
  entries_read zero nothing no_entry each fits = refl
  entries_read (suc room) nothing no_entry each fits = refl
  entries_read zero stretch (an_entry x xs) each fits = absurd (omega arith)
  entries_read (suc room) stretch (an_entry {w = w} x xs) each fits =
      let (first, second) = split_at w stretch in
      let more = entries_read room second xs (each_later each) (omega arith) in
      rw (reads.complete first x (each_first each), more)

-- A count and its entries

abbrev pub counted : {A : Type 0} → (ℕ → Reader A) → (ℕ → ℕ) → Reader (List A)
counted one room s at = then (u32 s at) (λ n next. entries (one n) (room n) n s next)

abbrev pub CountedBy : {A : Type 0} → (ℕ → ℕ → List ℕ → A → Type 0) → ℕ → List ℕ → List A → Type 0
CountedBy W at w xs = Counted (W (length xs)) at w xs

pub record Roomy {A : Type 0} (Small : A → Type 0) (room : ℕ → ℕ) (xs : List A) : Type 0 where
  pub each : Each Small xs
  pub fits : length xs ≤ room (length xs)

module _ {A : Type 0} (W : ℕ → ℕ → List ℕ → A → Type 0) {Small : A → Type 0} (one : ℕ → Reader A) (room : ℕ → ℕ) (reads : (n : ℕ) → Reads (W n) Small (one n)) where
  counted_lies : {n : ℕ} {s : List ℕ} {at mid end : ℕ} {xs : List A}
      → Found (Anywhere (Unsigned 32)) AnySize s at n mid → Found (Entries (W n)) (Sized Small n (room n)) s mid xs end → Found (CountedBy W) (Roomy Small room) s at xs end
  counted_lies {n} {at = at} {xs = xs} number rest =
      let same : length xs ≡ n = rest.small.count in
      let count : Unsigned 32 number.bytes (length xs) = rw same number.writes in
      let listed : Entries (W (length xs)) (at + length number.bytes) rest.bytes xs = rw same (behind (Entries (W n)) number.lies rest.writes) in
      record {
        bytes = number.bytes ++ rest.bytes;
        lies = join number.lies rest.lies;
        writes = count_and_entries count listed;
        small = record { each = rest.small.each; fits = rw same (rw same at rest.small.fits) };
      }

  counted_read : {s w : List ℕ} {at next : ℕ} {xs : List A} → Between s at w next → Roomy Small room xs → CountedBy W at w xs → counted one room s at ≡ got xs next
  counted_read stretch roomy (count_and_entries {w = w} {xs = xs} number rest) =
      let (first, second) = split_at w stretch in
      rw ((unsigned_reads 32).complete first number tt, entries_read (reads (length xs)) (room (length xs)) second rest roomy.each roomy.fits)

  pub counted_reads : Reads (CountedBy W) (Roomy Small room) (counted one room)
  counted_reads =
      record {
        sound = λ s at e.
            let (n, mid, read, f) = then_got (u32 s at) _ e in
            counted_lies ((unsigned_reads 32).sound s at read) (entries_found (reads n) (room n) n s mid f);
        complete = λ stretch writes small. counted_read stretch small writes;
      }

-- Lists of what is written the same wherever it stands

module _ {A : Type 0} {W : List ℕ → A → Type 0} where
  moved-entries : {at : ℕ} (to : ℕ) {w : List ℕ} {xs : List A} → Entries (Anywhere W) at w xs → Entries (Anywhere W) to w xs
  moved-entries to no_entry = no_entry
  moved-entries to (an_entry {w = w} x xs) = an_entry x (moved-entries (to + length w) xs)

  moved : {at : ℕ} (to : ℕ) {w : List ℕ} {xs : List A} → Counted (Anywhere W) at w xs → Counted (Anywhere W) to w xs
  moved to (count_and_entries {w = w} number rest) = count_and_entries number (moved-entries (to + length w) rest)

  listed_at : (at : ℕ) {w : List ℕ} {xs : List A} → Listed W w xs → Counted (Anywhere W) at w xs
  listed_at at (listed list) = moved at list

  listed_reads : {Small : List A → Type 0} {r : Reader (List A)} → Reads (Counted (Anywhere W)) Small r → Reads (Anywhere (Listed W)) Small r
  listed_reads reads =
      record {
        sound = λ s at e. let f = reads.sound s at e in record { bytes = f.bytes; lies = f.lies; writes = listed f.writes; small = f.small };
        complete = λ {s} {w} {at} stretch writes small. reads.complete stretch (listed_at at writes) small;
      }

pub few_reads : {A : Type 0} {W : List ℕ → A → Type 0} {Small : A → Type 0} {one : Reader A} → Reads (Anywhere W) Small one → Reads (Anywhere (Listed W)) (Roomy Small (λ n. most_each)) (few_at one)
unfolding few_at
few_reads {W = W} {one = one} reads =
    let all = listed_reads (counted_reads (λ n. Anywhere W) (λ n. one) (λ n. most_each) (λ n. reads)) in
    record { sound = all.sound; complete = all.complete }

pub supers_reads : Reads (Anywhere (Listed (Unsigned 32))) (Roomy AnySize (λ n. n)) supers_at
unfolding supers_at
supers_reads =
    let all = listed_reads (counted_reads (λ n. Anywhere (Unsigned 32)) (λ n. u32) (λ n. n) (λ n. unsigned_reads 32)) in
    record { sound = all.sound; complete = all.complete }
