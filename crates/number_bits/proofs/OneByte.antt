-- A number of one byte, as most are, at every width: its byte is its seven bits.
use Prim.Native.Nat.{ℕ, suc, ◌+◌, ◌-◌, ◌≤◌, ◌<◌}
use mathlib.Core.Path.{◌≡◌, ap, ◌∙◌}
use mathlib.Core.List.{List}
use native.Mathlib.Omega.{arith}
use lib.ListN.{get_elem?}
use Rattle.scope.specs.Told.{Maybe}
use Rattle.std.specs.Prelude.{None, Some}
use Rattle.scope.proofs.Impossible.{impossible}
use Rattle.number_bits.specs.declared.Leb.{Leb}
use Rattle.number_bits.specs.declared.Leb
use Rattle.scope.specs.Numbers.{bits_at}
use Rattle.number_bytes.specs.Bytes.{ByteAt}
use Rattle.number_bytes.proofs.Laws.{byte_got, byte_none, next_fits}
use Rattle.number_bits.specs.Bits.{MostBytes, GoesOn, BitsRead}
use Rattle.number_bits.proofs.Bits.{bits_last, bits_cut}

module _ {most : ℕ} (fit : MostBytes most) {s : List ℕ} {at : ℕ} {r : Maybe ℕ} (a : ByteAt s at r) where
  -- one byte may follow at least
  room : (more : ℕ) → most + more ≡ suc (most + more - 1)
  room more = let h : 1 ≤ most = fit.some in omega arith

  pub one_byte : {b : ℕ} → r ≡ Some b → b < 128 → BitsRead most s at (Leb.TheVariants.One b (at + 1))
  one_byte {b} e h =
      record {
        one = λ v n q.
            let value : b ≡ v = cc in
            let after : at + 1 ≡ n = cc in
            rw (← value, ← after) (h, λ more. ap (λ (x : ℕ). bits_at x s at) (room more) ∙ bits_last (most + more - 1) s at (byte_got (get_elem? s at) a.is e) h);
        ended = λ v k n q. impossible cc;
        lacking = λ q. impossible cc;
        going = λ v n q. impossible cc;
      }

  pub no_byte : r ≡ None → BitsRead most s at Leb.TheVariants.Cut
  no_byte e =
      record {
        one = λ v n q. impossible cc;
        ended = λ v k n q. impossible cc;
        lacking = λ q more. ap (λ (x : ℕ). bits_at x s at) (room more) ∙ bits_cut (most + more - 1) s at (byte_none (get_elem? s at) a.is e);
        going = λ v n q. impossible cc;
      }

  pub goes_on_lem : {b : ℕ} → r ≡ Some b → 128 ≤ b → GoesOn s at b most
  goes_on_lem {b} e h = record { byte = byte_got (get_elem? s at) a.is e; small = (a.small b e).0; inside = (a.small b e).1; more = h; room = fit }

pub ruleset one_byte_exits = (one_byte, no_byte, goes_on_lem, next_fits)
