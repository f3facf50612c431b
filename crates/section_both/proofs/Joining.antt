-- Each way out of judging two sections. What the table says after the library is the library's types as they are kept, and after
-- the add-on the joined list; the verdict on what is kept is the verdict on the types. The library's types, once accepted, are not
-- judged again: with any types after them they are asked what they are asked alone (facts_types).
use Prim.Native.Nat.{ℕ, zero, suc, ◌+◌, ◌-◌, ◌*◌, ◌≤◌, ◌<◌}
use mathlib.Core.Path.{◌≡◌, refl, sym, ap, ◌∙◌}
use mathlib.Core.Option.{Option, none, some}
use mathlib.Core.List.{List, [], ◌∷◌, ◌++◌, append_assoc, map-append}
use native.Mathlib.Omega.{arith}
use lib.ListN.{length, replicate, length-append, length-map}
use lib.Seq.{take-append_seam, drop-append_seam}
use Rattle.std.specs.Prelude.{Result, Ok, Err}
use Rattle.scope.proofs.Told.{rejected_as}
use Rattle.scope.specs.Told.{no_in}
use Rattle.std.specs.Prelude.{Result, Ok, Err}
use Rattle.scope.specs.declared.Rejected.{Rejected}
use Rattle.scope.specs.declared.Refused.{Refused}
use Rattle.scope.specs.Layout.{codes_size}
use Rattle.scope.specs.Reading.{Read, got, refused, given}
use Rattle.scope.specs.Lists.{joined}
use Rattle.scope.specs.Syntax.{Definition, Group, Types, types_of}
use Rattle.scope.specs.Sections.{read_after}
use Rattle.scope.specs.Judging.{in_library, in_addon, plain, Judged, accepted, rejected, and_then, scan, links_fault, rule_fault, judge_types, Joined, judge_more, judge_joined}
use Rattle.scope.specs.Memory.{starts_of, ends_of, rows_from}
use Rattle.scope.specs.declared.Place.{Place}
use Rattle.scope.proofs.Impossible.{impossible}
use Rattle.scope.proofs.Accepted.{joined-first, joined-rules, joined_more}
use Rattle.facts_types.proofs.Longer.{skips_library}
use Rattle.facts_types.proofs.Reaches.{read_reach as reads-within}
use Rattle.type_table.specs.Kept.{kept_definition}
use Rattle.type_table.specs.View.{view, rows_of, plain_from, both_codes}
use Rattle.type_table.proofs.Growing.{rows-length}
use Rattle.type_table.proofs.KeptVerdict.{ReachWithin, kept_accepted}
use Rattle.type_table.proofs.TwoSections.{two-table-rows, two-table-shared, two-table-codes}
use Rattle.type_span.specs.Span.{Beside}
use Rattle.type_span.proofs.Stores.{beside_view}
use Rattle.type_numbering.specs.Ranges.{Numbered}
use Rattle.type_ranges.proofs.Table.{plain_of, ranged_length, numbered-table, numbered_over}
use Rattle.section_group.specs.Lent.{kept_all}
use Rattle.section_judge.specs.Verdict.{ruled_is, judge_from}
use Rattle.section_judge.proofs.Scanning.{ruled_accepted, ruled_refused, judge_all}
use Rattle.section_reader.specs.Whole.{section_is, SectionPut}
use Rattle.section_reader.proofs.Modest.{read_lengths, read_reach}
use Rattle.section_reader.proofs.TwoRead.{one-judged, two_viewed, two-judged, two_reach, two-rows}
use Rattle.section_decide.specs.Deciding.{Decided}
use Rattle.section_both.specs.Both.{joined_is, two_of, after_is, AfterJudged, Ready, Opened, Stands, BothJudged}
use Rattle.section_both.proofs.Opening.{read_refused, read_got, zeroed, under, under_read, under_beside, over_viewed}

-- one section

read_count : (before : ℕ) (o : Read (List Group)) {q : Result ℕ Refused} {count : ℕ} → q ≡ section_is before o → q ≡ Ok count → (gs : List Group) (end : ℕ) → o ≡ got gs end → count ≡ before + length (joined gs)
read_count before o x y gs end e = let z : _ ≡ Ok (before + length (joined gs)) = x ∙ ap (section_is before) e in cc

module _ (input : ℕ → Place) (s : List ℕ) {before base : ℕ} {rows rows₁ mine mine' : List ℕ} (both : List ℕ) {q : Result ℕ Refused} (a : SectionPut (read_after before s) before base rows rows₁ mine mine' q) where
  after_refused : {no : Refused} → q ≡ Err no → AfterJudged input s before base rows rows₁ mine mine' both (Err (no_in no.number (input no.at)))
  after_refused e =
      record {
        read = q;
        placed = rows₁;
        put = a;
        answer = rw (read_refused before (read_after before s) a.answer e);
        rows_kept = a.rows_kept;
        numbered = λ gs end n f g. impossible cc;
        ranged = λ n g. impossible cc;
      }

  pub after-judged : {rows' : List ℕ} {count : ℕ} {r : Result ℕ Rejected} → q ≡ Ok count → Decided before count both rows₁ rows' r → AfterJudged input s before base rows rows' mine mine' both r
  after-judged {rows'} e d =
      let (gs, end, is, many) = read_got before (read_after before s) a.answer e in
      record {
        read = q;
        placed = rows₁;
        put = a;
        answer = rw is (rw many at d.answer);
        rows_kept = d.size ∙ a.rows_kept;
        numbered = λ more stop n f g. let same = read_count before (read_after before s) a.answer e more stop f in rw (← same) (d.numbered n g);
        ranged = λ n g. d.ranged n g;
      }

module _ (s : List ℕ) {before base : ℕ} {rows rows₁ mine mine' : List ℕ} (both : List ℕ) {q : Result ℕ Refused} (a : SectionPut (read_after before s) before base rows rows₁ mine mine' q) {no : Refused} (e : q ≡ Err no) where
  pub library_refused : AfterJudged in_library s before base rows rows₁ mine mine' both (Err (no_in no.number (in_library no.at)))
  library_refused = after_refused in_library s both a e

  pub addon_refused : AfterJudged in_addon s before base rows rows₁ mine mine' both (Err (no_in no.number (in_addon no.at)))
  addon_refused = after_refused in_addon s both a e

-- a verdict that accepts counts the types

scan-counts : (fault : ℕ → Option ℕ) (x n : ℕ) {m : ℕ} → scan fault x n ≡ accepted m → m ≡ x + n
unfolding scan
scan-counts fault x zero {m} e = let q : x ≡ m = cc in omega arith
scan-counts fault x (suc n) {m} e = go (fault x) e (scan-counts fault (x + 1) n)
  where
    go : (o : Option ℕ) → given o (scan fault (x + 1) n) (λ number. rejected number (plain x)) ≡ accepted m → (scan fault (x + 1) n ≡ accepted m → m ≡ x + 1 + n) → m ≡ x + suc n
    go none f later = let q = later f in omega arith
    go (some k) f later = impossible cc

judged-counts : (ds : List Definition) {m : ℕ} → judge_types (types_of ds) (length ds) ≡ accepted m → m ≡ length ds
unfolding judge_types
judged-counts ds {m} e = go (scan (links_fault (types_of ds)) 0 (length ds)) e
  where
    go : (o : Judged ℕ) → and_then o (λ links. scan (rule_fault (types_of ds)) 0 (length ds)) ≡ accepted m → m ≡ length ds
    go (accepted k) f = let q = scan-counts (rule_fault (types_of ds)) 0 (length ds) f in omega arith
    go (rejected k p) f = impossible cc

-- what is kept of the joined list, judged after the library's types, is judged

skips_kept : (ls ds : List Definition) {m : ℕ} → ReachWithin (types_of ls) → ((x : ℕ) → x < length ls → (types_of ls x).reach ≤ length ls) → judge_types (types_of ls) (length ls) ≡ accepted m
    → judge_from (length ls) (types_of (kept_all ls ++ kept_all ds)) (length ls + length ds) ≡ judge_types (types_of (kept_all ls ++ kept_all ds)) (length (ls ++ ds))
unfolding judge_from
skips_kept ls ds bound within fine =
    let same : kept_all ls ≡ ls = kept_accepted ls bound fine in
    let left : length ls + length ds - length ls ≡ length (kept_all ds) = (let m = length-map ds kept_definition in omega (arith, m)) in
    let all : length (ls ++ kept_all ds) ≡ length (ls ++ ds) = (let m = length-map ds kept_definition in length-append ls (kept_all ds) ∙ omega (arith, m, length-append ls ds)) in
    rw (same, left) (sym (rw all at (skips_library ls (kept_all ds) fine within)))

-- the joined verdict, by what was read

more_is : (ls ds : List Definition) (o : Judged ℕ) → judge_types (types_of (ls ++ ds)) (length (ls ++ ds)) ≡ o → two_of (length ls) (ruled_is o) ≡ joined_is (and_then o (λ all. accepted (record { before = length ls; types = ls ++ ds })))
more_is ls ds (accepted m) e = ap (λ (k : ℕ). Ok (length ls, k)) (judged-counts (ls ++ ds) e)
more_is ls ds (rejected n p) e = refl

two_accepts : (before : ℕ) (r : Result ℕ Rejected) (j : Joined) → two_of before r ≡ joined_is (accepted j) → (n : ℕ) × (r ≡ Ok n)
two_accepts before (Ok n) j e = (n, refl)
two_accepts before (Err why) j e = impossible cc

ranged_long : (ls ds ls' ds' : List Definition) (start end : ℕ → ℕ) → length ls' ≡ length ls → length ds' ≡ length ds → length (rows_of codes_size ls' ++ rows_of 0 ds') ≡ length (rows_from start end 0 codes_size ls ++ rows_from start end (length ls) 0 ds)
ranged_long ls ds ls' ds' start end h g =
    length-append (rows_of codes_size ls') (rows_of 0 ds')
    ∙ omega (arith, rows-length codes_size ls', rows-length 0 ds', length-append (rows_from start end 0 codes_size ls) (rows_from start end (length ls) 0 ds), ranged_length start end 0 codes_size ls, ranged_length start end (length ls) 0 ds)

-- the table after an acceptance: `plain` is as it was read, and the rows that are left have their ranges

module _ (library addon : List ℕ) {rows shared codes plain shared₂ plain₃ codes₃ rows₄ : List ℕ} {q q' : Result ℕ Refused} (gs more : List Group) {end stop : ℕ} (ready : Ready rows shared codes)
    (a : SectionPut (read_after 0 library) 0 codes_size rows plain shared shared₂ q) (read : read_after 0 library ≡ got gs end)
    (b : SectionPut (read_after (length (joined gs)) addon) (length (joined gs)) 0 plain plain₃ codes codes₃ q') (read' : read_after (length (joined gs)) addon ≡ got more stop)
    (t : Numbered (length (joined gs) + length (joined more)) (both_codes shared₂ codes₃) plain₃ rows₄) where
  held : {m : ℕ} → judge_types (types_of (joined gs ++ joined more)) (length (joined gs ++ joined more)) ≡ accepted m → Stands rows shared codes rows₄ shared₂ codes₃ (record { before = length (joined gs); types = joined gs ++ joined more })
  held e =
      let ls : List Definition = joined gs in
      let ds : List Definition = joined more in
      let zero-put = zeroed ready.rows_zero a in
      let bound = two_reach library addon (length rows) shared codes gs more zero-put read b read' in
      let r = two-rows library addon (length rows) shared codes gs more zero-put read b read' in
      let seen = two_viewed library addon (length rows) shared codes gs more zero-put read b read' in
      let l = take-append_seam ls ds in
      let d = drop-append_seam ls ds in
      let w = two-table-rows ls ds bound e in
      let kept : kept_all ls ++ kept_all ds ≡ ls ++ ds = sym (map-append kept_definition ls ds) ∙ kept_accepted (ls ++ ds) bound e in
      let z : ℕ = length rows - length (rows_of codes_size (kept_all ls) ++ rows_of 0 (kept_all ds)) in
      let is : plain₃ ≡ plain_of ls ds z =
      r ∙ sym (append_assoc (rows_of codes_size (kept_all ls)) (rows_of 0 (kept_all ds)) (replicate z 0)) ∙ ap (λ (words : List ℕ). words ++ replicate z 0) w ∙ append_assoc (plain_from codes_size ls) (plain_from 0 ds) (replicate z 0) in
      let said : view plain₃ (both_codes shared₂ codes₃) ≡ types_of (ls ++ ds) = seen ∙ ap types_of kept in
      let numbered : Numbered (length (ls ++ ds)) (both_codes shared₂ codes₃) plain₃ rows₄ = rw (length-append ls ds) t in
      let whole = numbered-table ls ds z (rw is at numbered) (rw is at said) in
      let long : length (rows_of codes_size (kept_all ls) ++ rows_of 0 (kept_all ds)) ≡ length (rows_from (starts_of (ls ++ ds)) (ends_of (ls ++ ds)) 0 codes_size ls ++ rows_from (starts_of (ls ++ ds)) (ends_of (ls ++ ds)) (length ls) 0 ds) = ranged_long ls ds (kept_all ls) (kept_all ds) (starts_of (ls ++ ds)) (ends_of (ls ++ ds)) (length-map ls kept_definition) (length-map ds kept_definition) in
      record {
        rows_is = rw (l, d, ← long) (whole ∙ sym (append_assoc (rows_from (starts_of (ls ++ ds)) (ends_of (ls ++ ds)) 0 codes_size ls) (rows_from (starts_of (ls ++ ds)) (ends_of (ls ++ ds)) (length ls) 0 ds) (replicate z 0)));
        shared_put = rw (l, ← two-table-shared ls ds bound e) (a.codes_put gs end read);
        codes_put = rw (d, ← two-table-codes ls ds bound e) (b.codes_put more stop read');
      }

  two-holds : (o : Judged ℕ) → judge_types (types_of (joined gs ++ joined more)) (length (joined gs ++ joined more)) ≡ o → (k : Joined) → and_then o (λ all. accepted (record { before = length (joined gs); types = joined gs ++ joined more })) ≡ accepted k → Stands rows shared codes rows₄ shared₂ codes₃ k
  two-holds (accepted m) e k g = let same : record { before = length (joined gs); types = joined gs ++ joined more } ≡ k = cc in rw (← same) (held e)
  two-holds (rejected n p) e k g = impossible cc

module _ (library : List ℕ) {rows shared codes rows₂ shared₂ : List ℕ} {j : Result ℕ Rejected} (ready : Ready rows shared codes) (a : AfterJudged in_library library 0 codes_size rows rows₂ shared shared₂ (both_codes shared₂ codes) j) where
  library_is : (gs : List Group) {end : ℕ} → read_after 0 library ≡ got gs end → j ≡ ruled_is (judge_types (types_of (joined gs)) (length (joined gs)))
  library_is gs {end} e =
      let ts : Types = view a.placed (both_codes shared₂ codes) in
      let none : 0 + length (joined gs) ≡ length (joined gs) = omega arith in
      let said : j ≡ ruled_is (judge_from 0 ts (0 + length (joined gs))) = a.answer ∙ ap (after_is in_library ts 0) e in
      (rw none at said) ∙ ap ruled_is (judge_all ts (length (joined gs)) ∙ one-judged library (length rows) shared codes gs (zeroed ready.rows_zero a.put) e)

  -- accepted: so many types, read from the library, with their ranges

  record Accepts (before : ℕ) : Type 0 where
    gs : List Group
    end : ℕ
    read : read_after 0 library ≡ got gs end
    fine : judge_types (types_of (joined gs)) (length (joined gs)) ≡ accepted before
    many : before ≡ length (joined gs)
    beside : Beside (length (joined gs)) a.placed rows₂

  accepts : {before : ℕ} → j ≡ Ok before → Accepts before
  accepts {before} f = go (read_after 0 library) refl
    where
      go : (o : Read (List Group)) → read_after 0 library ≡ o → Accepts before
      go (refused k m) e = let said = sym f ∙ a.answer ∙ ap (after_is in_library (view a.placed (both_codes shared₂ codes)) 0) e in impossible cc
      go (got gs end) e =
          let fine = ruled_accepted (judge_types (types_of (joined gs)) (length (joined gs))) (library_is gs e) f in
          let none : 0 + length (joined gs) ≡ length (joined gs) = omega arith in
          record { gs = gs; end = end; read = e; fine = fine; many = judged-counts (joined gs) fine; beside = (rw none at (a.numbered gs end before e f)).beside }

  pub own_opened : {before : ℕ} → j ≡ Ok before → Opened before rows₂ shared₂ codes
  own_opened f =
      let s = accepts f in
      let l = read_lengths 0 (omega arith) library s.read in
      record {
        enough = record {
          rows_enough = omega (arith, ready.rows_enough, a.rows_kept);
          codes_enough = ready.codes_enough;
          few = omega (arith, s.many, l.0);
          near = omega arith;
        };
        library = library;
        gs = s.gs;
        end = s.end;
        read = s.read;
        fine = s.fine;
        many = s.many;
        room = length rows;
        own = shared;
        placed = a.placed;
        answer = a.read;
        put = zeroed ready.rows_zero a.put;
        beside = rw s.many s.beside;
      }

module _ (library addon : List ℕ) {rows shared codes rows₂ shared₂ : List ℕ} {j : Result ℕ Rejected} (ready : Ready rows shared codes) (a : AfterJudged in_library library 0 codes_size rows rows₂ shared shared₂ (both_codes shared₂ codes) j) where
  joined_refused : {no : Rejected} → j ≡ Err no → judge_joined library addon ≡ rejected no.number no.place
  joined_refused {no} f = go (read_after 0 library) refl
    where
      go : (o : Read (List Group)) → read_after 0 library ≡ o → judge_joined library addon ≡ rejected no.number no.place
      go (refused k m) e =
          joined-first library addon e ∙ rejected_as (a.answer ∙ ap (after_is in_library (view a.placed (both_codes shared₂ codes)) 0) e) f
      go (got gs end) e = joined-rules library addon gs e (ruled_refused (judge_types (types_of (joined gs)) (length (joined gs))) (library_is library ready a gs e) f)

  pub first_refused : {no : Rejected} → j ≡ Err no → BothJudged library addon rows shared codes rows₂ shared₂ codes (Err no)
  first_refused f =
      let no-joined = joined_refused f in
      record {
        answer = rw no-joined;
        rows_kept = a.rows_kept;
        shared_kept = a.put.codes_kept;
        codes_kept = refl;
        stands = λ k e. impossible cc;
        ranged = λ k e. impossible cc;
      }

  pub own_decides : {before : ℕ} {rows₄ codes₃ : List ℕ} {r : Result ℕ Rejected} {q : Result (ℕ × ℕ) Rejected} → j ≡ Ok before → AfterJudged in_addon addon before 0 rows₂ rows₄ codes codes₃ (both_codes shared₂ codes₃) r → q ≡ two_of before r → BothJudged library addon rows shared codes rows₄ shared₂ codes₃ q
  own_decides {before} {rows₄} {codes₃} {r} {q} f b two =
      record {
        answer = said (accepts library ready a f);
        rows_kept = b.rows_kept ∙ a.rows_kept;
        shared_kept = a.put.codes_kept;
        codes_kept = b.put.codes_kept;
        stands = λ k e. after (accepts library ready a f) k e;
        ranged = λ k e. (let n = b_accepted k e in b.ranged n.0 n.1);
      }
    where
      by_read : (gs : List Group) {end m : ℕ} → read_after 0 library ≡ got gs end → judge_types (types_of (joined gs)) (length (joined gs)) ≡ accepted m → Beside (length (joined gs)) a.placed rows₂
          → AfterJudged in_addon addon (length (joined gs)) 0 rows₂ rows₄ codes codes₃ (both_codes shared₂ codes₃) r
          → (o : Read (List Group)) → read_after (length (joined gs)) addon ≡ o → two_of (length (joined gs)) r ≡ joined_is (judge_more (joined gs) o)
      by_read gs read fine beside c (refused k m) e = ap (two_of (length (joined gs))) (c.answer ∙ ap (after_is in_addon (view c.placed (both_codes shared₂ codes₃)) (length (joined gs))) e)
      by_read gs read fine beside c (got more stop) e =
          let ts : Types = view c.placed (both_codes shared₂ codes₃) in
          let zero-put = zeroed ready.rows_zero a.put in
          let said : r ≡ ruled_is (judge_from (length (joined gs)) ts (length (joined gs) + length (joined more))) = c.answer ∙ ap (after_is in_addon ts (length (joined gs))) e in
          let seen = over_viewed library addon (length rows) shared codes gs zero-put read fine beside c.put more e in
          let within : (x : ℕ) → x < length (joined gs) → (types_of (joined gs) x).reach ≤ length (joined gs) = λ x h. let near = reads-within 0 library gs read x h in omega (arith, near) in
          let once = skips_kept (joined gs) (joined more) (read_reach 0 (omega arith) library read) within fine in
          let over : judge_from (length (joined gs)) ts (length (joined gs) + length (joined more)) ≡ judge_types ts (length (joined gs ++ joined more)) = rw (← seen) at once in
          let plain = under_read beside c.put more e in
          let alike : ts ≡ view (under beside c.put more e) (both_codes shared₂ codes₃) = beside_view (under_beside beside c.put more e) (both_codes shared₂ codes₃) in
          let ruled = two-judged library addon (length rows) shared codes gs more zero-put read plain e in
          ap (two_of (length (joined gs))) (said ∙ ap ruled_is (over ∙ ap (λ (us : Types). judge_types us (length (joined gs ++ joined more))) alike ∙ ruled)) ∙ more_is (joined gs) (joined more) (judge_types (types_of (joined gs ++ joined more)) (length (joined gs ++ joined more))) refl

      said : Accepts library ready a before → q ≡ joined_is (judge_joined library addon)
      said s = rw (joined_more library addon s.gs s.read s.fine) (two ∙ ap (λ (n : ℕ). two_of n r) s.many ∙ by_read s.gs s.read s.fine s.beside (rw s.many at b) (read_after (length (joined s.gs)) addon) refl)

      -- where both are accepted, the add-on's verdict accepts
      b_accepted : (k : Joined) → judge_joined library addon ≡ accepted k → (n : ℕ) × (r ≡ Ok n)
      b_accepted k e = two_accepts before r k (sym two ∙ said (accepts library ready a f) ∙ ap joined_is e)

      filled_by : (gs : List Group) {end n : ℕ} → read_after 0 library ≡ got gs end → Beside (length (joined gs)) a.placed rows₂ → AfterJudged in_addon addon (length (joined gs)) 0 rows₂ rows₄ codes codes₃ (both_codes shared₂ codes₃) r → r ≡ Ok n
          → (o : Read (List Group)) → read_after (length (joined gs)) addon ≡ o → (k : Joined) → judge_more (joined gs) o ≡ accepted k → Stands rows shared codes rows₄ shared₂ codes₃ k
      filled_by gs read beside c yes' (refused n m) e k g = impossible cc
      filled_by gs {n = n} read beside c yes' (got more stop) e k g =
          let numbered = numbered_over (under_beside beside c.put more e) (omega arith) (c.numbered more stop n e yes') in
          two-holds library addon gs more ready a.put read (under_read beside c.put more e) e numbered (judge_types (types_of (joined gs ++ joined more)) (length (joined gs ++ joined more))) refl k g

      after : Accepts library ready a before → (k : Joined) → judge_joined library addon ≡ accepted k → Stands rows shared codes rows₄ shared₂ codes₃ k
      after s k e =
          let n = b_accepted k e in
          filled_by s.gs s.read s.beside (rw s.many at b) n.1 (read_after (length (joined s.gs)) addon) refl k (sym (joined_more library addon s.gs s.read s.fine) ∙ e)

-- the count of all types, after the library's

module _ (before : ℕ) {j : Result ℕ Rejected} where
  pub two_refused : {no : Rejected} → j ≡ Err no → Err no ≡ two_of before j
  two_refused e = rw e

  pub two_accepted : {n : ℕ} → j ≡ Ok n → Ok (before, n) ≡ two_of before j
  two_accepted e = rw e

pub ruleset two_exits = (two_refused, two_accepted)
