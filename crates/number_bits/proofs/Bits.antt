-- The loop of `leb_loop` and the definition `bits_at` walk the same bytes: what was read so far, put below what the definition
-- reads from here, is what it reads from the start. Each turn moves seven bits from the one to the other.
use Prim.Native.Nat.{ℕ, suc, ◌+◌, ◌-◌, ◌*◌, ◌^◌, ◌%◌, ◌≤◌, ◌<◌}
use mathlib.Core.Path.{◌≡◌, refl, sym, ap, ◌∙◌}
use mathlib.Core.Option.{none, some}
use mathlib.Core.List.{List}
use native.Mathlib.Omega.{arith}
use native.Mathlib.Nat.{mul-add, mul_assoc, add_assoc, mul-le-mul_left, mod-lt}
use lib.ListN.{length, get_elem?}
use lib.Pow.{pow-add, pow_mono}
use lib.Dec.{lit<}
use borrow.Author.Tests.{lt-ltb, le-ltb}
use mir.Syntax.{w64}
use mir.Val.{Fits}
use Rattle.scope.specs.Told.{Maybe}
use Rattle.std.specs.Prelude.{None, Some}
use Rattle.scope.specs.Numbers.{Bits, bits, cut, long, under, bits_at}
use Rattle.scope.proofs.Impossible.{impossible}
use Rattle.number_bits.specs.declared.Leb.{Leb}
use Rattle.number_bits.specs.declared.Leb
use Rattle.number_bytes.specs.Bytes.{ByteAt}
use Rattle.number_bytes.proofs.Laws.{byte_got, byte_none, next_fits}
use Rattle.number_bits.specs.Bits.{above, MostBytes, GoesOn, BitsRead}

above-none : (r : Bits) → r ≡ above 0 1 0 r
above-none (bits u j next) = let p : 0 + 1 * u ≡ u = omega arith in let q : 0 + j ≡ j = omega arith in cc
above-none cut = refl
above-none long = refl

seven : (b : ℕ) → b % 128 < 128
seven b = mod-lt b (lit< tt)

-- seven bits more
above-under : (v w k b : ℕ) (r : Bits) → above v w k (under b r) ≡ above (v + w * (b % 128)) (w * 128) (k + 1) r
above-under v w k b (bits u j next) =
    let value : v + w * (b % 128 + 128 * u) ≡ v + w * (b % 128) + w * 128 * u =
    ap (λ (x : ℕ). v + x) (mul-add w (b % 128) (128 * u)) ∙ sym (add_assoc v (w * (b % 128)) (w * (128 * u))) ∙ ap (λ (x : ℕ). v + w * (b % 128) + x) (sym (mul_assoc w 128 u)) in
    let count : k + (j + 1) ≡ k + 1 + j = omega arith in
    cc
above-under v w k b cut = refl
above-under v w k b long = refl

-- the definition at a byte that is there

pub bits_last : (room : ℕ) (s : List ℕ) (at : ℕ) {b : ℕ} → get_elem? s at ≡ some b → b < 128 → bits_at (suc room) s at ≡ bits b 1 (at + 1)
unfolding bits_at
bits_last room s at {b} e h = rw (e, lt-ltb b 128 h)

pub bits_more : (room : ℕ) (s : List ℕ) (at : ℕ) {b : ℕ} → get_elem? s at ≡ some b → 128 ≤ b → bits_at (suc room) s at ≡ under b (bits_at room s (at + 1))
unfolding bits_at
bits_more room s at {b} e h = rw (e, le-ltb b 128 h)

pub bits_cut : (room : ℕ) (s : List ℕ) (at : ℕ) → get_elem? s at ≡ none → bits_at (suc room) s at ≡ cut
unfolding bits_at
bits_cut room s at e = rw e

-- what the loop holds after `count` bytes that all go on

pub record Part (most : ℕ) (s : List ℕ) (at value weight next count : ℕ) : Type 0 where
  pub few : count ≤ most
  pub weighs : weight ≡ 2 ^ (7 * count)
  pub small : value < weight
  pub same : (more : ℕ) → bits_at (most + more) s at ≡ above value weight count (bits_at (most + more - count) s next)

part_first : (most : ℕ) (s : List ℕ) (at : ℕ) → Part most s at 0 1 at 0
part_first most s at =
    record { few = omega arith; weighs = refl; small = omega arith; same = λ more. above-none (bits_at (most + more) s at) ∙ ap (λ (n : ℕ). above 0 1 0 (bits_at n s at)) (let e : most + more ≡ most + more - 0 = omega arith in e) }

seven_more : (k : ℕ) → 2 ^ (7 * k) * 128 ≡ 2 ^ (7 * (k + 1))
seven_more k = sym (pow-add 2 (7 * k) 7) ∙ ap (λ (x : ℕ). 2 ^ x) (let e : 7 * k + 7 ≡ 7 * (k + 1) = omega arith in e)

module _ {most : ℕ} (fit : MostBytes most) {s : List ℕ} {at value weight next count : ℕ} (p : Part most s at value weight next count) (left : count < most) where
  pub weight_bound : weight ≤ 2 ^ 56
  weight_bound = rw p.weighs (pow_mono {i = 7 * count} {j = 56} (let h : most ≤ 9 = fit.fit in omega arith))

  times_bound : {b : ℕ} → b < 128 → weight * b ≤ weight * 127
  times_bound h = mul-le-mul_left weight (omega arith)

  turn_value : (b : ℕ) → value + weight * (b % 128) < weight * 128
  turn_value b = let t : weight * (b % 128) ≤ weight * 127 = mul-le-mul_left weight (let h = seven b in omega arith) in let q : value < weight = p.small in omega arith

  -- how many bytes may still follow: one at least
  room : (more : ℕ) → most + more - count ≡ suc (most + more - (count + 1))
  room more = omega arith

  -- a byte that goes on: seven bits more
  pub part_turn : {r : Maybe ℕ} {b : ℕ} → ByteAt s next r → r ≡ Some b → 128 ≤ b → Part most s at (value + weight * (b % 128)) (weight * 128) (next + 1) (count + 1)
  part_turn {r} {b} a e h =
      record {
        few = omega arith;
        weighs = ap (λ (w : ℕ). w * 128) p.weighs ∙ seven_more count;
        small = turn_value b;
        same = λ more.
            p.same more
            ∙ ap (λ (n : ℕ). above value weight count (bits_at n s next)) (room more)
            ∙ ap (above value weight count) (bits_more (most + more - (count + 1)) s next (byte_got (get_elem? s next) a.is e) h)
            ∙ above-under value weight count b (bits_at (most + more - (count + 1)) s (next + 1));
      }

  -- the last byte
  pub part_last : {r : Maybe ℕ} {b : ℕ} → ByteAt s next r → r ≡ Some b → b < 128 → BitsRead most s at (Leb.TheVariants.Bits (value + weight * b) (count + 1) (next + 1))
  part_last {r} {b} a e h =
      record {
        one = λ v n q. impossible cc;
        ended = λ v k n q.
            let same : value + weight * b ≡ v = cc in
            let many : count + 1 ≡ k = cc in
            let after : next + 1 ≡ n = cc in
            let t : weight * b ≤ weight * 127 = times_bound h in
            let y : value < weight = p.small in
            let w : weight * 128 ≡ 2 ^ (7 * k) = ap (λ (x : ℕ). x * 128) p.weighs ∙ seven_more count ∙ ap (λ (x : ℕ). 2 ^ (7 * x)) many in (
              record { some = omega arith; few = omega arith; seven = omega arith },
              λ more. rw (← same, ← many, ← after) (p.same more ∙ ap (λ (n : ℕ). above value weight count (bits_at n s next)) (room more) ∙ ap (above value weight count) (bits_last (most + more - (count + 1)) s next (byte_got (get_elem? s next) a.is e) h)),
            );
        lacking = λ q. impossible cc;
        going = λ v n q. impossible cc;
      }

  -- the bytes end
  pub part_cut : {r : Maybe ℕ} → ByteAt s next r → r ≡ None → BitsRead most s at Leb.TheVariants.Cut
  part_cut {r} a e =
      record {
        one = λ v n q. impossible cc;
        ended = λ v k n q. impossible cc;
        lacking = λ q more.
            p.same more
            ∙ ap (λ (n : ℕ). above value weight count (bits_at n s next)) (room more)
            ∙ ap (above value weight count) (bits_cut (most + more - (count + 1)) s next (byte_none (get_elem? s next) a.is e));
        going = λ v n q. impossible cc;
      }

  -- no sum and no product of the loop wraps

  pub product_fits : {b : ℕ} → b < 128 → Fits w64 (weight * b)
  product_fits {b} h =
      let t : weight * b ≤ weight * 127 = times_bound h in let w : weight ≤ 2 ^ 56 = weight_bound in record { fits = omega arith }

  pub sum_fits : {b : ℕ} → b < 128 → Fits w64 (value + weight * b)
  sum_fits {b} h =
      let t : weight * b ≤ weight * 127 = times_bound h in
      let w : weight ≤ 2 ^ 56 = weight_bound in
      let v : value < weight = p.small in
      record { fits = omega arith }

  pub turn_product_fits : (b : ℕ) → Fits w64 (weight * (b % 128))
  turn_product_fits b = product_fits (seven b)

  pub turn_sum-fits : (b : ℕ) → Fits w64 (value + weight * (b % 128))
  turn_sum-fits b = sum_fits (seven b)

  pub weight_fits : Fits w64 (weight * 128)
  weight_fits = let w : weight ≤ 2 ^ 56 = weight_bound in record { fits = omega arith }

-- where the loop starts: after a first byte that goes on
module _ {s : List ℕ} {at b most : ℕ} (g : GoesOn s at b most) where
  pub part_second : Part most s at (b % 128) 128 (at + 1) 1
  part_second =
      let first : Part most s at (0 + 1 * (b % 128)) (1 * 128) (at + 1) (0 + 1) =
      part_turn g.room (part_first most s at) g.room.some (record { is = rw g.byte; small = λ c e. let same : b ≡ c = cc in rw (← same) (g.small, g.inside) }) refl g.more in
      let value : 0 + 1 * (b % 128) ≡ b % 128 = omega arith in
      rw value at first

  pub second_fits : length s < 2 ^ 64 → Fits w64 (at + 1)
  second_fits l = let h : at < length s = g.inside in record { fits = omega arith }

  pub first_goes : 128 ≤ b
  first_goes = g.more

  pub room_there : MostBytes most
  room_there = g.room

-- as many bytes as that, which all go on
pub part_long : {most : ℕ} {s : List ℕ} {at value weight next count : ℕ} → Part most s at value weight next count → most ≤ count → BitsRead most s at (Leb.TheVariants.Long value next)
part_long {most} {s} {at} {value} {weight} {next} {count} p h =
    record {
      one = λ v n q. impossible cc;
      ended = λ v k n q. impossible cc;
      lacking = λ q. impossible cc;
      going = λ v n q.
          let same : value ≡ v = cc in
          let after : next ≡ n = cc in
          let all : count ≡ most = (let f : count ≤ most = p.few in omega arith) in
          let w : weight ≡ 2 ^ (7 * most) = p.weighs ∙ ap (λ (x : ℕ). 2 ^ (7 * x)) all in
          let y : value < weight = p.small in (
            omega arith,
            λ more.
                let rest : most + more - count ≡ more = omega arith in
                rw (← same, ← after)
                (p.same more
                ∙ ap (λ (n : ℕ). above value weight count (bits_at n s next)) rest
                ∙ ap (λ (x : ℕ). above value x count (bits_at more s next)) w
                ∙ ap (λ (k : ℕ). above value (2 ^ (7 * most)) k (bits_at more s next)) all),
          );
    }

pub ruleset leb_exits = (part_second, second_fits, first_goes, room_there, part_turn, part_last, part_cut, part_long, product_fits, sum_fits, turn_product_fits, turn_sum-fits, weight_fits, next_fits)
