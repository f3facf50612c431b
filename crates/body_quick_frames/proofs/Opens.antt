-- Each way out of block and loop: the frame is written, and the check stands in it.
use Prim.Native.Nat.{ℕ, zero, suc, ◌+◌, ◌-◌, ◌^◌, ◌≤◌, ◌<◌}
use mathlib.Core.Path.{◌≡◌, refl, sym, ap, ◌∙◌}
use mathlib.Core.Bool.{Bool, true, false, cond}
use mathlib.Core.Option.{some}
use mathlib.Core.List.{List, [], ◌∷◌, map}
use native.Mathlib.Omega.{arith}
use lib.ListN.{length, get_elem?}
use lib.Dec.{eqb, ltb}
use borrow.Author.Tests.{lt-ltb}
use mir.Syntax.{w16, w32, w64}
use mir.Val.{Fits}
use Rattle.scope.specs.Sizes.{most_blocks, most_frames, most_operands}
use Rattle.scope.specs.Reading.{got}
use Rattle.scope.specs.Lists.{every, joined}
use Rattle.scope.specs.TypeRules.{val_names}
use Rattle.scope.specs.Syntax.{Val}
use Rattle.scope.specs.Sections.{val_at}
use Rattle.scope.specs.Instructions.{Instr, block, loop, block_type_at, instr_at}
use Rattle.scope.specs.BodyRules.{Context, allowed}
use Rattle.scope.specs.Bodies.{State, goes_on, judge_instr}
use Rattle.type_table.specs.View.{val_at_code}
use Rattle.body_decoded.specs.Decoded.{block_results}
use Rattle.body_state.specs.Layout.{code_bound}
use Rattle.body_state.specs.declared.Check.{Check}
use Rattle.body_state.specs.State.{frame_of, stack, sets_at, frames_at, state_at, Upright, Stamped}
use Rattle.body_state.proofs.Alike.{frames_length}
use Rattle.body_frames.specs.Frames.{Entering, Entered, Opening}
use Rattle.body_frames.proofs.Inside.{opened, opened_upright, opened_stamped}
use Rattle.body_progress.specs.Standing.{Ordered, check_of}
use Rattle.body_quick_read.specs.declared.Item.{Item}
use Rattle.body_quick_read.specs.Items.{ByteOr}
use Rattle.body_quick_take.specs.Telling.{Asked, Goes}
use Rattle.body_quick_frames.specs.declared.Frame.{Frame}
use Rattle.body_quick_frames.specs.Frames.{open_byte, BlockTold, AskedFrame, ToldFrame, PlainFrame}

-- the block's type

pub block_not : (s : List ℕ) (at : ℕ) → BlockTold s at (record { value = 0; size = 0 })
block_not s at = record { is = λ n. absurd (n refl); few = omega arith; one = omega arith }

module _ {s : List ℕ} {at b : ℕ} (a : ByteOr s at b) where
  here : {k : ℕ} → b ≡ k → k < 256 → get_elem? s at ≡ some k
  here {k} e h = a.is (omega arith) ∙ ap some e

  pub block_none : b ≡ 0x40 → BlockTold s at (record { value = 0; size = 1 })
  unfolding block_type_at
  block_none e = let f = here e (omega arith) in record { is = λ n. rw f; few = omega arith; one = omega arith }

  pub block_i32 : b ≡ 0x7F → BlockTold s at (record { value = 1; size = 1 })
  unfolding block_type_at val_at val_at_code
  block_i32 e = let f = here e (omega arith) in record { is = λ n. rw f; few = omega arith; one = omega arith }

  pub block_i64 : b ≡ 0x7E → BlockTold s at (record { value = 2; size = 1 })
  unfolding block_type_at val_at val_at_code
  block_i64 e = let f = here e (omega arith) in record { is = λ n. rw f; few = omega arith; one = omega arith }

  pub block_f32 : b ≡ 0x7D → BlockTold s at (record { value = 3; size = 1 })
  unfolding block_type_at val_at val_at_code
  block_f32 e = let f = here e (omega arith) in record { is = λ n. rw f; few = omega arith; one = omega arith }

  pub block_f64 : b ≡ 0x7C → BlockTold s at (record { value = 4; size = 1 })
  unfolding block_type_at val_at val_at_code
  block_f64 e = let f = here e (omega arith) in record { is = λ n. rw f; few = omega arith; one = omega arith }

pub ruleset type_exits = (block_not, block_none, block_i32, block_i64, block_f32, block_f64)

-- a number names no type
no_names : (p : ℕ → Bool) (w : ℕ) → w ≤ 4 → every p (joined (map val_names (block_results w))) ≡ true
unfolding val_at_code
no_names p zero h = refl
no_names p (suc zero) h = refl
no_names p (suc (suc zero)) h = refl
no_names p (suc (suc (suc zero))) h = refl
no_names p (suc (suc (suc (suc zero)))) h = refl
no_names p (suc (suc (suc (suc (suc w))))) h = absurd (omega arith)

-- nothing is told

pub frame_not : {work work' : List ℕ} (c : Context) (s : List ℕ) (at count depth base top dead : ℕ) {r : Frame} → r ≡ record { depth = 0; base = 0; top = 0; dead = 0; size = 0 } → work' ≡ work → ToldFrame c s at work work' count depth base top dead r
frame_not c s at count depth base top dead {r} e k =
    let none' : r.size ≡ 0 = ap (λ (d : Frame). d.size) e in
    record { goes = λ n. absurd (n none'); ordered = λ n. absurd (n none'); flag = λ n. absurd (n none'); kept = λ z. k }

pub plain-not : {work work' : List ℕ} (s : List ℕ) (at count depth base top dead : ℕ) {r : Frame} → r ≡ record { depth = 0; base = 0; top = 0; dead = 0; size = 0 } → work' ≡ work → PlainFrame s at work work' count depth base top dead r
plain-not s at count depth base top dead e k = record { is = λ c. frame_not c s at count depth base top dead e k }

-- the instruction

opens_as : Bool → List Val → Instr
opens_as is_loop rs = cond is_loop (loop rs) (block rs)

read_open : (is_loop : Bool) (s : List ℕ) (at : ℕ) {rs : List Val} → get_elem? s at ≡ some (open_byte is_loop) → block_type_at s (at + 1) ≡ got rs (at + 2) → instr_at s at ≡ got (opens_as is_loop rs) (at + 2)
unfolding instr_at opens_as
read_open true s at e f = rw (e, f)
read_open false s at e f = rw (e, f)

module _ (work : List ℕ) (count depth base top dead : ℕ) (deep : depth < most_blocks) (w : ℕ) (few : w ≤ 4) (c : Context) where
  room : ltb (length (frames_at work count depth) + 1) most_frames ≡ true
  room = rw (frames_length work count depth) (lt-ltb (depth + 1) most_frames (omega arith))

  judges : (is_loop : Bool) → judge_instr c (state_at work count (check_of depth base top dead)) (opens_as is_loop (block_results w)) ≡ allowed (goes_on (record { frames = frame_of is_loop (block_results w) (stack work base (top - base)) (eqb dead 1) (sets_at work (depth + 1) 0 count) ∷ frames_at work count depth; operands = []; dead = false; is_set = sets_at work (depth + 1) 0 count }))
  unfolding judge_instr state_at opens_as
  judges true = rw (no_names (λ x. ltb x c.count) w few, room)
  judges false = rw (no_names (λ x. ltb x c.count) w few, room)

module _ {b : ℕ} {s : List ℕ} {at : ℕ} {work : List ℕ} {count depth base top dead : ℕ} (a : AskedFrame b s at work count depth base top dead) where
  pub frame_next : length s < 2 ^ 64 → Fits w64 (at + 1)
  frame_next l = let i = a.asked.inside in record { fits = omega arith }

  pub frame_above : base ≤ top
  frame_above = a.asked.stands.ordered.above

  pub depth_fits : Fits w16 depth
  depth_fits = let d = a.asked.stands.upright.deep in record { fits = omega arith }

  pub base-fits : Fits w32 base
  base-fits = let h = a.asked.stands.ordered.above in let l = a.asked.stands.ordered.low in record { fits = omega arith }

  pub height_fits : Fits w32 (top - base)
  height_fits = let l = a.asked.stands.ordered.low in record { fits = omega arith }

  pub place_fits : Fits w32 at
  place_fits = let e = a.early in record { fits = omega arith }

  pub may_enter : depth < most_blocks → Entering work (check_of depth base top dead)
  may_enter h = let u = a.asked.stands.upright in record { room = u.room; deep = h; low = u.low }

pub result_fits : {s : List ℕ} {at : ℕ} {q : Item} → BlockTold s at q → Fits w32 q.value
result_fits t = let f = t.few in record { fits = omega arith }

pub deeper_fits : {depth : ℕ} → depth < most_blocks → Fits w64 (depth + 1)
deeper_fits h = record { fits = omega arith }

inner_check : (depth base top dead : ℕ) → base ≤ top → ◌≡◌ {A = Check} (record { depth = depth + 1; base = base + (top - base); height = 0; dead = false }) (check_of (depth + 1) top top 0)
inner_check depth base top dead h =
    let one : base + (top - base) ≡ top = omega arith in
    let two : 0 ≡ top - top = omega arith in
    λ i. record { depth = depth + 1; base = one i; height = two i; dead = false }

module _ {is_loop : Bool} {s : List ℕ} {at : ℕ} {work : List ℕ} {count depth base top dead : ℕ} (a : AskedFrame (open_byte is_loop) s at work count depth base top dead) {q : Item} (t : BlockTold s (at + 1) q) (n : q.size ≡ 0 → ⊥) (h : depth < most_blocks) {work' : List ℕ} {inner : Check} (e : Entered work work' (check_of depth base top dead) is_loop q.value at inner) where
  opening : Opening work count (check_of depth base top dead) at
  opening = record { upright = a.asked.stands.upright; stamped = a.stamped; early = a.early }

  small : q.value < code_bound
  small = let f = t.few in omega arith

  reads : instr_at s at ≡ got (opens_as is_loop (block_results q.value)) (at + 2)
  reads =
      let o = t.one in
      let place : at + 1 + q.size ≡ at + 2 = omega (arith, n) in
      read_open is_loop s at a.asked.byte (t.is n ∙ ap (λ (x : ℕ). got (block_results q.value) x) place)

  goes : (c : Context) → Goes c s at work work' count (check_of depth base top dead) inner (at + 2)
  goes c =
      record {
        instr = opens_as is_loop (block_results q.value);
        reads = reads;
        judged = judges work count depth base top dead h q.value t.few c is_loop ∙ ap (λ (x : State). allowed (goes_on x)) (sym (opened opening e small h));
        upright = opened_upright opening e small h;
        stamped = λ old. opened_stamped opening e small h;
        types = λ i l. e.below i (omega arith);
        size = e.size;
      }

  pub open_told : PlainFrame s at work work' count depth base top dead (record { depth = depth + 1; base = top; top = top; dead = 0; size = 2 })
  open_told =
      let above = a.asked.stands.ordered.above in
      let low = a.asked.stands.ordered.low in
      let same = e.check ∙ inner_check depth base top dead above in
      record { is = λ c. record { goes = λ m. rw same at (goes c); ordered = λ m. record { above = omega arith; low = low }; flag = λ m. omega arith; kept = λ z. absurd (omega arith) } }

pub ruleset open_exits = (frame_next, frame_above, depth_fits, base-fits, height_fits, place_fits, may_enter, result_fits, deeper_fits, open_told, plain-not)
