-- The groups of a section. The loop and the definition `groups_at` walk the same bytes; each group is lent the rest of the
-- table from its first row and its first code on, so what it puts there follows the rows and codes of the groups before it.
use Prim.Native.Nat.{ℕ, zero, suc, ◌+◌, ◌-◌, ◌*◌, ◌≤◌, ◌<◌}
use mathlib.Core.Path.{◌≡◌, refl, sym, ap, ◌∙◌}
use mathlib.Core.List.{List, [], ◌∷◌, ◌++◌, map, append_assoc, append-nil, map-append}
use native.Mathlib.Omega.{arith}
use lib.ListN.{length, take, drop, length-append, length-drop}
use lib.Seq.{take_all, drop-length}
use mir.Syntax.{w64}
use mir.Val.{Fits}
use borrow.Rule.Slice.PartMut.{mid_of, put_mid, Post-is, same_len_mid}
use Rattle.std.specs.Prelude.{Result, Ok, Err, IsErrAnd}
use Rattle.scope.specs.declared.Refused.{Refused}
use Rattle.scope.specs.Layout.{row_span, codes_size}
use Rattle.scope.specs.Sizes.{most_types}
use Rattle.scope.specs.Reading.{got, refused, then}
use Rattle.scope.specs.Lists.{joined}
use Rattle.scope.specs.Syntax.{Group}
use Rattle.scope.specs.Sections.{group_at, groups_at}
use Rattle.scope.proofs.Forward.{group_takes, never_back}
use Rattle.scope.proofs.Impossible.{impossible}
use Rattle.scope.proofs.Told.{told_got, told_refused, passed}
use Rattle.type_table.specs.View.{rows_of, codes_of}
use Rattle.type_table.proofs.Puts.{Puts, puts_none, puts_more, puts_length, puts_part}
use Rattle.type_table.proofs.Growing.{codes-append, rows_append}
use Rattle.section_forms.specs.Reads.{Room}
use Rattle.section_forms.proofs.Lists.{onto, onto-none, onto_more}
use Rattle.section_definition.specs.Rows.{low}
use Rattle.section_group.specs.declared.Group as told_group
use Rattle.section_group.specs.Lent.{Lent, kept_all, group_of, GroupPut}
use Rattle.section_group.proofs.Grouping.{rows-done}
use Rattle.section_reader.specs.Whole.{flat_at, Begun, GroupsPut}
use Rattle.section_reader.proofs.Feeding.{group_ate}

-- the rest of a list from a place on, lent and put back

rest_is : (a : ℕ) (m : List ℕ) → mid_of a (length m - a) m ≡ drop a m
rest_is a m = take_all (length m - a) (drop a m) (let l = length-drop a m in omega arith)

rest_put : (a : ℕ) (m part : List ℕ) → a ≤ length m → put_mid a (length m - a) m part ≡ take a m ++ part
rest_put a m part h = ap (λ l. take a m ++ (part ++ l)) (Post-is a (length m) m h ∙ drop-length m) ∙ ap (λ l. take a m ++ l) (append-nil part)

-- one more group

joined_more : (gs : List Group) (g : Group) → joined (gs ++ g ∷ []) ≡ joined gs ++ g
joined_more [] g = append-nil g
joined_more (f ∷ gs) g = ap (λ ds. f ++ ds) (joined_more gs g) ∙ sym (append_assoc f (joined gs) g)

groups_step : (n first : ℕ) (s : List ℕ) (at : ℕ) {g : Group} {next : ℕ} → 0 < n → group_at first s at ≡ got g next → groups_at n first s at ≡ then (groups_at (n - 1) (first + length g) s next) (λ gs stop. got (g ∷ gs) stop)
unfolding groups_at
groups_step zero first s at h e = absurd (omega arith)
groups_step (suc n) first s at h e = let same : suc n - 1 ≡ n = omega arith in rw (e, same)

groups_refused : (n first : ℕ) (s : List ℕ) (at : ℕ) {k place : ℕ} → 0 < n → group_at first s at ≡ refused k place → groups_at n first s at ≡ refused k place
unfolding groups_at
groups_refused zero first s at h e = absurd (omega arith)
groups_refused (suc n) first s at h e = rw e

groups_done : (n first : ℕ) (s : List ℕ) (at : ℕ) → n ≤ 0 → groups_at n first s at ≡ got [] at
unfolding groups_at
groups_done zero first s at h = refl
groups_done (suc n) first s at h = absurd (omega arith)

-- the loop

pub record Walked (n before base : ℕ) (s : List ℕ) (at : ℕ) (rows₀ rows codes₀ codes : List ℕ) (next left first used : ℕ) : Type 0 where
  pub done : List Group
  pub same : groups_at n before s at ≡ onto done (groups_at left first s next)
  pub counted : first ≡ before + length (joined done)
  pub takes : used ≡ base + length (codes_of (kept_all (joined done)))
  pub few : first ≤ most_types
  pub near : base ≤ codes_size
  pub rows_put : Puts rows₀ rows (row_span * before) (map low (rows_of base (kept_all (joined done))))
  pub codes_put : Puts codes₀ codes 0 (codes_of (kept_all (joined done)))
  pub room : Room s codes next (used - base)
  pub lines : row_span * most_types ≤ length rows₀

pub walked_first : {s rows codes : List ℕ} {at before base : ℕ} (n : ℕ) → Begun s rows codes at before base → Walked n before base s at rows rows codes codes at n before base
unfolding rows_of codes_of
walked_first {s} {rows} {codes} {at} {before} {base} n lent =
    let few = lent.few in
    let lines = lent.lines in
    let none : base - base ≡ 0 = omega arith in
    record {
      done = [];
      same = onto-none (groups_at n before s at);
      counted = omega arith;
      takes = omega arith;
      few = lent.few;
      near = lent.near;
      rows_put = puts_none rows (row_span * before) (omega arith);
      codes_put = puts_none codes 0 (omega arith);
      room = rw none lent.room;
      lines = lent.lines;
    }

module _ {n before base : ℕ} {s : List ℕ} {at : ℕ} {rows₀ rows codes₀ codes : List ℕ} {next left first used : ℕ} (p : Walked n before base s at rows₀ rows codes₀ codes next left first used) where
  pub walked_rows_size : length rows ≡ length rows₀
  walked_rows_size = puts_length p.rows_put

  pub walked_codes_size : length codes ≡ length codes₀
  walked_codes_size = puts_length p.codes_put

  pub walked_start-fits : Fits w64 (row_span * first)
  walked_start-fits = let f = p.few in record { fits = omega arith }

  pub walked_start : row_span * first ≤ length rows
  walked_start = let f = p.few in let l = p.lines in let z = walked_rows_size in omega arith

  pub walked_base : base ≤ used
  walked_base = omega (arith, p.takes)

  pub walked_from : used - base ≤ length codes
  walked_from = omega (arith, p.room.inside, p.room.enough)

  pub walked_done : left ≤ 0 → let all : told_group.Group = record { count = first; used = used } in GroupsPut n before base s at rows₀ rows codes₀ codes (Ok (all, next))
  walked_done h =
      let all : groups_at n before s at ≡ got p.done next = p.same ∙ ap (onto p.done) (groups_done left first s next h) ∙ ap (λ gs. got gs next) (append-nil p.done) in
      let whole : flat_at n before s at ≡ got (joined p.done) next = rw all in
      record {
        answer = rw (whole, p.takes, p.counted);
        rows_put = λ ds stop e. let same : joined p.done ≡ ds = cc in rw (← same) p.rows_put;
        codes_put = λ ds stop e. let same : joined p.done ≡ ds = cc in rw (← same) p.codes_put;
        rows_kept = walked_rows_size;
        codes_kept = walked_codes_size;
      }

  module _ (more : 0 < left) where
    pub walked_lent : Lent s (mid_of (row_span * first) (length rows - row_span * first) rows) (mid_of (used - base) (length codes - (used - base)) codes) next first used
    walked_lent =
        let f = p.few in
        let l = p.lines in
        let z = walked_rows_size in
        let d = length-drop (row_span * first) rows in
        let rest = length-drop (used - base) codes in
        let enough : 0 + length s ≤ next + length (drop (used - base) codes) = omega (arith, rest, p.room.inside, p.room.enough) in
        record {
          room = record { behind = omega arith; inside = p.room.inside; enough = rw (rest_is (used - base) codes) enough; small = p.room.small };
          behind = omega (arith, p.room.behind, p.near);
          few = p.few;
          lines = rw (rest_is (row_span * first) rows) (omega arith);
        }

    module _ {part piece : List ℕ} {r : Result (told_group.Group × ℕ) Refused} (a : GroupPut (group_at first) s next (mid_of (row_span * first) (length rows - row_span * first) rows) part (mid_of (used - base) (length codes - (used - base)) codes) piece used r) where
      pub walked_rows-kept : length (put_mid (row_span * first) (length rows - row_span * first) rows part) ≡ length rows₀
      walked_rows-kept = same_len_mid (row_span * first) (length rows - row_span * first) rows part a.rows_kept ∙ walked_rows_size

      pub walked_codes-kept : length (put_mid (used - base) (length codes - (used - base)) codes piece) ≡ length codes₀
      walked_codes-kept = same_len_mid (used - base) (length codes - (used - base)) codes piece a.codes_kept ∙ walked_codes_size

      pub walked_refused : {no : Refused} {q : Result (told_group.Group × ℕ) Refused} → r ≡ Err no → IsErrAnd q (λ y. y ≡ no) → GroupsPut n before base s at rows₀ (put_mid (row_span * first) (length rows - row_span * first) rows part) codes₀ (put_mid (used - base) (length codes - (used - base)) codes piece) q
      walked_refused {no} e is =
          let none : groups_at n before s at ≡ refused no.number no.at = p.same ∙ ap (onto p.done) (groups_refused left first s next more (told_refused (group_of used) (group_at first s next) (sym e ∙ a.answer))) in
          let whole : flat_at n before s at ≡ refused no.number no.at = rw none in
          rw (passed is refl)
          (record {
            answer = rw whole;
            rows_put = λ ds stop f. impossible cc;
            codes_put = λ ds stop f. impossible cc;
            rows_kept = walked_rows-kept;
            codes_kept = walked_codes-kept;
          })

      kept_more : (g : Group) → kept_all (joined (p.done ++ g ∷ [])) ≡ kept_all (joined p.done) ++ kept_all g
      kept_more g = ap kept_all (joined_more p.done g) ∙ map-append _ (joined p.done) g

      rows_more : (g : Group) → map low (rows_of base (kept_all (joined (p.done ++ g ∷ [])))) ≡ map low (rows_of base (kept_all (joined p.done))) ++ map low (rows_of used (kept_all g))
      rows_more g =
          ap (λ ds. map low (rows_of base ds)) (kept_more g)
          ∙ ap (map low) (rows_append base (kept_all (joined p.done)) (kept_all g))
          ∙ map-append low (rows_of base (kept_all (joined p.done))) (rows_of (base + length (codes_of (kept_all (joined p.done)))) (kept_all g))
          ∙ ap (λ (k : ℕ). map low (rows_of base (kept_all (joined p.done))) ++ map low (rows_of k (kept_all g))) (let t = p.takes in omega arith)

      codes_more : (g : Group) → codes_of (kept_all (joined (p.done ++ g ∷ []))) ≡ codes_of (kept_all (joined p.done)) ++ codes_of (kept_all g)
      codes_more g = ap codes_of (kept_more g) ∙ codes-append (kept_all (joined p.done)) (kept_all g)

      grown : {count after taken : ℕ} (g : Group) → group_at first s next ≡ got g after → count ≡ length g → taken ≡ used + length (codes_of (kept_all g)) → Walked n before base s at rows₀ (put_mid (row_span * first) (length rows - row_span * first) rows part) codes₀ (put_mid (used - base) (length codes - (used - base)) codes piece) after (left - 1) (first + count) taken
      grown {count} {after} {taken} g read many codes-many =
          let ate = group_ate first s next read in
          let ends = never_back (group_takes first) s next read in
          let c : first ≡ before + length (joined p.done) = p.counted in
          let t : used ≡ base + length (codes_of (kept_all (joined p.done))) = p.takes in
          let here : Puts (drop (row_span * first) rows) part 0 (map low (rows_of used (kept_all g))) = rw (rest_is (row_span * first) rows) at (a.rows_put g after read) in
          let there : Puts rows (put_mid (row_span * first) (length rows - row_span * first) rows part) (row_span * first + 0) (map low (rows_of used (kept_all g))) = puts_part rows (row_span * first) walked_start (rest_put (row_span * first) rows part walked_start) here in
          let line : row_span * before + length (map low (rows_of base (kept_all (joined p.done)))) ≡ row_span * first + 0 = (let l = rows-done base (joined p.done) in omega arith) in
          let near : Puts (drop (used - base) codes) piece 0 (codes_of (kept_all g)) = rw (rest_is (used - base) codes) at (a.codes_put g after read) in
          let coded : Puts codes (put_mid (used - base) (length codes - (used - base)) codes piece) ((used - base) + 0) (codes_of (kept_all g)) = puts_part codes (used - base) walked_from (rest_put (used - base) codes piece walked_from) near in
          let place : 0 + length (codes_of (kept_all (joined p.done))) ≡ (used - base) + 0 = omega arith in
          let size : length (put_mid (used - base) (length codes - (used - base)) codes piece) ≡ length codes = same_len_mid (used - base) (length codes - (used - base)) codes piece a.codes_kept in
          record {
            done = p.done ++ g ∷ [];
            same =
                p.same
                ∙ ap (onto p.done) (groups_step left first s next more read)
                ∙ onto_more p.done g (groups_at (left - 1) (first + length g) s after)
                ∙ ap (λ (k : ℕ). onto (p.done ++ g ∷ []) (groups_at (left - 1) (first + k) s after)) (sym many);
            counted = (let l : length (joined (p.done ++ g ∷ [])) ≡ length (joined p.done) + length g = ap length (joined_more p.done g) ∙ length-append (joined p.done) g in omega arith);
            takes = (let l : length (codes_of (kept_all (joined (p.done ++ g ∷ [])))) ≡ length (codes_of (kept_all (joined p.done))) + length (codes_of (kept_all g)) = ap length (codes_more g) ∙ length-append (codes_of (kept_all (joined p.done))) (codes_of (kept_all g)) in omega arith);
            few = omega (arith, p.few, ate.few);
            near = p.near;
            rows_put = rw (rows_more g) (puts_more p.rows_put (rw line there));
            codes_put = rw (codes_more g) (puts_more p.codes_put (rw place coded));
            room =
                record {
                  behind = omega (arith, p.room.behind, ate.ahead);
                  inside = ends.1;
                  enough = omega (arith, p.room.enough, ate.ahead);
                  small = p.room.small;
                };
            lines = p.lines;
          }

      module _ {group : told_group.Group} {after : ℕ} (e : r ≡ Ok (group, after)) where
        read_group : (g : Group) × (group_at first s next ≡ got g after) × (group ≡ group_of used g)
        read_group = told_got (group_of used) (group_at first s next) (sym e ∙ a.answer)

        pub walked_turn : Walked n before base s at rows₀ (put_mid (row_span * first) (length rows - row_span * first) rows part) codes₀ (put_mid (used - base) (length codes - (used - base)) codes piece) after (left - 1) (first + group.count) group.used
        walked_turn = let (g, read, same) = read_group in grown g read (ap (λ (x : told_group.Group). x.count) same) (ap (λ (x : told_group.Group). x.used) same)

        pub walked_count_fits : Fits w64 (first + group.count)
        walked_count_fits =
            let (g, read, same) = read_group in
            let many : group.count ≡ length g = ap (λ (x : told_group.Group). x.count) same in
            let ate = group_ate first s next read in
            record { fits = omega (arith, p.few, ate.few) }

pub ruleset walk_exits = (walked_first, walked_rows_size, walked_codes_size, walked_start-fits, walked_start, walked_base, walked_from, walked_rows-kept, walked_codes-kept)
