-- The laws of specs/Limits.antt hold: along the readers, `then`, `on_byte` and `cond` keep both.
use Prim.Native.Nat.{ℕ, zero, suc, ◌+◌, ◌-◌, ◌<◌, ◌≤◌}
use native.Mathlib.Omega.{arith}
use mathlib.Core.Path.{◌≡◌, refl, ap}
use mathlib.Core.Bool.{Bool, true, false, cond}
use mathlib.Core.Option.{Option, none, some}
use mathlib.Core.List.{List, [], ◌∷◌}
use lib.ListN.{length, length-append, get_elem?}
use lib.Dec.{eqb, ltb}
use borrow.Author.Tests.{ltb-true, lt-ltb}
use Rattle.scope.specs.Sizes.{most_bytes, most_types}
use Rattle.scope.specs.Refusals.{oversize, bytes_end}
use Rattle.scope.specs.Reading.{Read, got, refused, Reader, given, then, entries}
use Rattle.scope.specs.Numbers.{u32}
use Rattle.scope.specs.Lists.{joined}
use Rattle.scope.specs.Syntax.{Group}
use Rattle.scope.specs.Sections.{definition_at, group_at, groups_at, ended, read_after}
use Rattle.facts_sections.specs.Limits.{group_under, groups_under, read_under, Wider, the_same, too_many, Limits}
use Rattle.facts_sections.proofs.Readers.{refused_is_not_got, by_cond, then_got, byte_got}

-- today's reader

groups_now : (n first : ℕ) (s : List ℕ) (at : ℕ) → groups_under most_types n first s at ≡ groups_at n first s at
unfolding groups_under groups_at group_under group_at
groups_now zero first s at = refl
groups_now (suc n) first s at = go (group_at first s at) (λ g next. groups_now n (first + length g) s next)
  where
    go : (r : Read Group) → ((g : Group) (next : ℕ) → groups_under most_types n (first + length g) s next ≡ groups_at n (first + length g) s next)
        → then r (λ g next. then (groups_under most_types n (first + length g) s next) (λ gs end. got (g ∷ gs) end))
        ≡ then r (λ g next. then (groups_at n (first + length g) s next) (λ gs end. got (g ∷ gs) end))
    go (got g next) h = rw (h g next)
    go (refused k p) h = refl

read_now : (first : ℕ) (s : List ℕ) → read_under most_types first s ≡ read_after first s
unfolding read_under read_after
read_now first s = go (u32 s 0)
  where
    go : (r : Read ℕ) → cond (ltb most_bytes (length s)) (refused oversize 0) (then r (λ n next. then (groups_under most_types n first s next) (ended s)))
        ≡ cond (ltb most_bytes (length s)) (refused oversize 0) (then r (λ n next. then (groups_at n first s next) (ended s)))
    go (got n next) = rw (groups_now n first s next)
    go (refused k p) = refl

-- a wider one

wider_then : {A B : Type 0} {r q : Read A} {f g : A → ℕ → Read B} → Wider r q → ((x : A) (next : ℕ) → Wider (f x next) (g x next)) → Wider (then r f) (then q g)
wider_then {r = r} {f = f} {g} (the_same e) h = rw (← e) (go r)
  where
    go : (o : Read _) → Wider (then o f) (then o g)
    go (got x next) = h x next
    go (refused n p) = the_same refl
wider_then (too_many {p = p} e) h = too_many {p = p} (rw e)

wider_first : {A B : Type 0} (r : Read A) {f g : A → ℕ → Read B} → ((x : A) (next : ℕ) → Wider (f x next) (g x next)) → Wider (then r f) (then r g)
wider_first (got x next) h = h x next
wider_first (refused n p) h = the_same refl

wider_cond : {A : Type 0} (t : Bool) {a b c d : Read A} → Wider a b → Wider c d → Wider (cond t a c) (cond t b d)
wider_cond true p q = p
wider_cond false p q = q

entries_wider : {A : Type 0} (one : Reader A) (a b n : ℕ) (s : List ℕ) (at : ℕ) → a ≤ b → Wider (entries one a n s at) (entries one b n s at)
unfolding entries
entries_wider one a b zero s at h = the_same refl
entries_wider one zero b (suc n) s at h = too_many refl
entries_wider one (suc a) zero (suc n) s at h = absurd (omega arith)
entries_wider one (suc a) (suc b) (suc n) s at h =
    wider_first (one s at) (λ x next. wider_then (entries_wider one a b n s next (omega arith)) (λ xs end. the_same refl))

module _ (narrow wide : ℕ) (h : narrow ≤ wide) where
  alone_wider : {A : Type 0} (first : ℕ) (r : Read A) (at : ℕ) → Wider (cond (ltb first narrow) r (refused oversize at)) (cond (ltb first wide) r (refused oversize at))
  alone_wider first r at = go (ltb first narrow) refl
    where
      go : (t : Bool) → ltb first narrow ≡ t → Wider (cond t r (refused oversize at)) (cond (ltb first wide) r (refused oversize at))
      go true e = let below = ltb-true first narrow e in the_same (rw (lt-ltb first wide (omega arith)))
      go false e = too_many {p = at} refl

  group_wider : (first : ℕ) (s : List ℕ) (at : ℕ) → Wider (group_under narrow first s at) (group_under wide first s at)
  unfolding group_under
  group_wider first s at = go (get_elem? s at)
    where
      go : (o : Option ℕ) → Wider
          (given o (refused bytes_end at) (λ b. cond (eqb b 0x4E) (then (u32 s (at + 1)) (λ n next. entries (definition_at (first + n)) (narrow - first) n s next)) (cond (ltb first narrow) (then (definition_at (first + 1) s at) (λ d next. got (d ∷ []) next)) (refused oversize at))))
          (given o (refused bytes_end at) (λ b. cond (eqb b 0x4E) (then (u32 s (at + 1)) (λ n next. entries (definition_at (first + n)) (wide - first) n s next)) (cond (ltb first wide) (then (definition_at (first + 1) s at) (λ d next. got (d ∷ []) next)) (refused oversize at))))
      go none = the_same refl
      go (some b) =
          wider_cond (eqb b 0x4E)
          (wider_first (u32 s (at + 1)) (λ n next. entries_wider (definition_at (first + n)) (narrow - first) (wide - first) n s next (omega arith)))
          (alone_wider first (then (definition_at (first + 1) s at) (λ d next. got (d ∷ []) next)) at)

  groups_wider : (n first : ℕ) (s : List ℕ) (at : ℕ) → Wider (groups_under narrow n first s at) (groups_under wide n first s at)
  unfolding groups_under
  groups_wider zero first s at = the_same refl
  groups_wider (suc n) first s at =
      wider_then (group_wider first s at) (λ g next. wider_then (groups_wider n (first + length g) s next) (λ gs end. the_same refl))

  read_wider : (first : ℕ) (s : List ℕ) → Wider (read_under narrow first s) (read_under wide first s)
  unfolding read_under
  read_wider first s =
      wider_cond (ltb most_bytes (length s)) (the_same refl)
      (wider_first (u32 s 0) (λ n next. wider_then (groups_wider n first s next) (λ gs end. the_same refl)))

-- what is read is within the limit

ended_is : (s : List ℕ) (hs : List Group) (stop : ℕ) {gs : List Group} {end : ℕ} → ended s hs stop ≡ got gs end → hs ≡ gs
ended_is s hs stop e = by_cond (eqb stop (length s)) (λ at f. cc) (λ left f. absurd (refused_is_not_got f)) e

entries_hold : {A : Type 0} (one : Reader A) (room n : ℕ) (s : List ℕ) (at : ℕ) {xs : List A} {end : ℕ} → entries one room n s at ≡ got xs end → length xs ≤ room
unfolding entries
entries_hold one room zero s at {xs} e = let none_there_lem : [] ≡ xs = cc in let many = ap length none_there_lem in omega arith
entries_hold one zero (suc n) s at e = absurd (refused_is_not_got e)
entries_hold one (suc room) (suc n) s at {xs} e =
    let (x, next, read, f) = then_got (one s at) _ e in
    let (ys, stop, more, g) = then_got (entries one room n s next) _ f in
    let same : x ∷ ys ≡ xs = cc in
    let many = ap length same in
    let fewer = entries_hold one room n s next more in
    omega arith

group_holds : (most first : ℕ) (s : List ℕ) (at : ℕ) {g : Group} {end : ℕ} → first ≤ most → group_under most first s at ≡ got g end → first + length g ≤ most
unfolding group_under
group_holds most first s at {g} room e =
    let (b, there, f) = byte_got s at _ e in
    by_cond (eqb b 0x4E)
    (λ same k.
    let (n, next, read, m) = then_got (u32 s (at + 1)) _ k in
    let fewer = entries_hold (definition_at (first + n)) (most - first) n s next m in
    omega arith)
    (λ other k.
    by_cond (ltb first most)
    (λ below l.
    let (d, next, read, m) = then_got (definition_at (first + 1) s at) _ l in
    let one : d ∷ [] ≡ g = cc in
    let many : length (d ∷ []) ≡ length g = ap length one in
    let less = ltb-true first most below in
    omega arith)
    (λ full l. absurd (refused_is_not_got l))
    k)
    f

groups_hold : (most n first : ℕ) (s : List ℕ) (at : ℕ) {gs : List Group} {end : ℕ} → first ≤ most → groups_under most n first s at ≡ got gs end → first + length (joined gs) ≤ most
unfolding groups_under
groups_hold most zero first s at {gs} room e = let none_there_lem : [] ≡ gs = cc in let many = ap (λ (hs : List Group). length (joined hs)) none_there_lem in omega arith
groups_hold most (suc n) first s at {gs} room e =
    let (g, next, read, f) = then_got (group_under most first s at) _ e in
    let (more, stop, later, k) = then_got (groups_under most n (first + length g) s next) _ f in
    let same : g ∷ more ≡ gs = cc in
    let all : length (joined (g ∷ more)) ≡ length (joined gs) = ap (λ (hs : List Group). length (joined hs)) same in
    let both = length-append g (joined more) in
    let here = group_holds most first s at room read in
    let there = groups_hold most n (first + length g) s next here later in
    omega arith

read_holds : (most first : ℕ) (s : List ℕ) (gs : List Group) (end : ℕ) → first ≤ most → read_under most first s ≡ got gs end → first + length (joined gs) ≤ most
unfolding read_under
read_holds most first s gs end room e =
    by_cond (ltb most_bytes (length s))
    (λ large f. absurd (refused_is_not_got f))
    (λ small f.
    let (n, next, read, g) = then_got (u32 s 0) _ f in
    let (hs, stop, more, k) = then_got (groups_under most n first s next) (ended s) g in
    let same : hs ≡ gs = ended_is s hs stop k in
    rw (← same) (groups_hold most n first s next room more))
    e

-- within the narrower one

entries-within : {A : Type 0} (one : Reader A) (a b n : ℕ) (s : List ℕ) (at : ℕ) {xs : List A} {end : ℕ} → entries one b n s at ≡ got xs end → length xs ≤ a → entries one a n s at ≡ got xs end
unfolding entries
entries-within one a b zero s at e h = e
entries-within one a zero (suc n) s at e h = absurd (refused_is_not_got e)
entries-within {A} one a (suc b) (suc n) s at {xs} {end} e h =
    let (x, next, read, f) = then_got (one s at) _ e in
    let (ys, stop, more, g) = then_got (entries one b n s next) _ f in
    let same : x ∷ ys ≡ xs = cc in
    let here : stop ≡ end = cc in
    let many : suc (length ys) ≤ a = rw (ap length same) h in
    go a x next ys stop read same here many (λ c few. entries-within one c b n s next more few)
  where
    go : (c : ℕ) (x : A) (next : ℕ) (ys : List A) (stop : ℕ) → one s at ≡ got x next → x ∷ ys ≡ xs → stop ≡ end → suc (length ys) ≤ c
        → ((k : ℕ) → length ys ≤ k → entries one k n s next ≡ got ys stop) → entries one c (suc n) s at ≡ got xs end
    go zero x next ys stop read same here many later = absurd (omega arith)
    go (suc c) x next ys stop read same here many later = rw (read, later c (omega arith), same, here)

module _ (narrow wide : ℕ) (h : narrow ≤ wide) where
  group_within : (first : ℕ) (s : List ℕ) (at : ℕ) {g : Group} {end : ℕ} → group_under wide first s at ≡ got g end → first + length g ≤ narrow → group_under narrow first s at ≡ got g end
  unfolding group_under
  group_within first s at {g} {end} e few =
      let (b, there, f) = byte_got s at _ e in
      let fewer : length g ≤ narrow - first = omega arith in
      by_cond (eqb b 0x4E)
      (λ same k.
      let (n, next, read, m) = then_got (u32 s (at + 1)) _ k in
      rw (there, same, read) (entries-within (definition_at (first + n)) (narrow - first) (wide - first) n s next m fewer))
      (λ other k.
      by_cond (ltb first wide)
      (λ below l.
      let (d, next, read, m) = then_got (definition_at (first + 1) s at) _ l in
      let one : d ∷ [] ≡ g = cc in
      let many : length (d ∷ []) ≡ length g = ap length one in
      let room : first < narrow = omega arith in
      rw (there, other, lt-ltb first narrow room, read) m)
      (λ full l. absurd (refused_is_not_got l))
      k)
      f

  groups_within : (n first : ℕ) (s : List ℕ) (at : ℕ) {gs : List Group} {end : ℕ} → groups_under wide n first s at ≡ got gs end → first + length (joined gs) ≤ narrow → groups_under narrow n first s at ≡ got gs end
  unfolding groups_under
  groups_within zero first s at e few = e
  groups_within (suc n) first s at {gs} {end} e few =
      let (g, next, read, f) = then_got (group_under wide first s at) _ e in
      let (more, stop, later, k) = then_got (groups_under wide n (first + length g) s next) _ f in
      let same : g ∷ more ≡ gs = cc in
      let all : length (joined (g ∷ more)) ≡ length (joined gs) = ap (λ (hs : List Group). length (joined hs)) same in
      let both = length-append g (joined more) in
      rw (group_within first s at read (omega arith), groups_within n (first + length g) s next later (omega arith)) k

  read_within : (first : ℕ) (s : List ℕ) (gs : List Group) (end : ℕ) → read_under wide first s ≡ got gs end → first + length (joined gs) ≤ narrow → read_under narrow first s ≡ got gs end
  unfolding read_under
  read_within first s gs end e few =
      by_cond (ltb most_bytes (length s))
      (λ large f. absurd (refused_is_not_got f))
      (λ small f.
      let (n, next, read, g) = then_got (u32 s 0) _ f in
      let (hs, stop, more, k) = then_got (groups_under wide n first s next) (ended s) g in
      let same : hs ≡ gs = ended_is s hs stop k in
      rw (small, read, groups_within n first s next more (rw same few)) k)
      e

pub limits : Limits
limits = record { now = read_now; holds = read_holds; wider = λ narrow wide first s h. read_wider narrow wide h first s; within = λ narrow wide first s gs end h. read_within narrow wide h first s gs end }
