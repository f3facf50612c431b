-- Each way out of asking for room.
use Prim.Native.Nat.{ℕ, ◌+◌, ◌≤◌, ◌<◌}
use mathlib.Core.Bool.{false}
use lib.Dec.{leb}
use borrow.Author.Tests.{lt-ltb, le-ltb, leb-true}
use Rattle.scope.specs.Sizes.{most_objects, most_cells}
use Rattle.scope.proofs.Impossible.{impossible}
use Rattle.run_objects.proofs.Packs.{store_length, packed_cells}
use Rattle.run_heap.specs.Heap.{RoomFor}

module _ {n total need : ℕ} where
  pub room_none : most_objects ≤ n → RoomFor n total need false
  room_none h =
      record {
        is = λ objects cells p. rw (store_length objects cells n, le-ltb n most_objects h);
        few = λ e. impossible cc;
        most = λ e. impossible cc;
      }

  pub room_by : n < most_objects → RoomFor n total need (leb (total + need) most_cells)
  room_by h =
      record {
        is = λ objects cells p. rw (store_length objects cells n, lt-ltb n most_objects h, packed_cells p cells);
        few = λ e. h;
        most = λ e. leb-true (total + need) most_cells e;
      }

pub ruleset room_exits = (room_none, room_by)
