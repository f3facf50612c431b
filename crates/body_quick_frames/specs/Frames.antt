-- What is asked and told of an instruction after which another frame is the innermost.
use Rattle.std.specs.Prelude.{ℕ, ◌+◌, ◌*◌, ◌≤◌, ◌<◌, ◌≡◌, Bool, cond, List}
use Rattle.scope.specs.Sizes.{most_bytes}
use Rattle.scope.specs.Reading.{got}
use Rattle.scope.specs.Instructions.{block_type_at}
use Rattle.scope.specs.BodyRules.{Context}
use Rattle.lent_u32.specs.Scratch.{Word32At}
use Rattle.body_decoded.specs.Decoded.{block_results}
use Rattle.body_state.specs.Layout.{frames_from, frame_span, result_word, base_word, height_word, dead_word}
use Rattle.body_state.specs.State.{Stamped}
use Rattle.body_progress.specs.Standing.{Ordered, check_of, Stands}
use Rattle.body_quick_read.specs.declared.Item.{Item}
use Rattle.body_quick_read.specs.Items.{ByteOr}
use Rattle.body_quick_take.specs.Telling.{Asked, Goes}
use Rattle.body_quick_frames.specs.declared.Frame.{Frame}

-- the byte of block, and that of loop
abbrev pub open_byte : Bool → ℕ
open_byte is_loop = cond is_loop 0x03 0x02

-- no result, or a number: 0, or one more than its code
pub record BlockTold (s : List ℕ) (at : ℕ) (r : Item) : Type 0 where
  pub is : (r.size ≡ 0 → ⊥) → block_type_at s at ≡ got (block_results r.value) (at + r.size)
  pub few : r.value ≤ 4
  pub one : r.size ≤ 1

-- what is asked besides: a frame's stamp is the place of its instruction
pub record AskedFrame (b : ℕ) (s : List ℕ) (at : ℕ) (work : List ℕ) (count depth base top dead : ℕ) : Type 0 where
  pub asked : Asked b s at work count depth base top dead
  pub stamped : Stamped work count depth at
  pub early : at ≤ most_bytes

-- by its first byte, or 256 past the end
pub record FacingFrame (b : ℕ) (s : List ℕ) (at : ℕ) (work : List ℕ) (count depth base top dead : ℕ) : Type 0 where
  pub byte : ByteOr s at b
  pub stands : Stands work count depth base top dead
  pub stamped : Stamped work count depth at
  pub early : at ≤ most_bytes

-- and what the words of the innermost frame say of the one around it
pub record AskedEnd (s : List ℕ) (at : ℕ) (work : List ℕ) (count depth base top dead w outer height unknowns : ℕ) : Type 0 where
  pub asked : Asked 0x0B s at work count depth base top dead
  pub some' : depth ≡ 0 → ⊥
  pub result : Word32At work (frames_from + (frame_span * (depth + 1) + result_word)) w
  pub outer' : Word32At work (frames_from + (frame_span * (depth + 1) + base_word)) outer
  pub height' : Word32At work (frames_from + (frame_span * (depth + 1) + height_word)) height
  pub unknowns' : Word32At work (frames_from + (frame_span * (depth + 1) + dead_word)) unknowns

-- Told, with the frame that is then the innermost; or not, and nothing is written.
pub record ToldFrame (c : Context) (s : List ℕ) (at : ℕ) (work work' : List ℕ) (count depth base top dead : ℕ) (r : Frame) : Type 0 where
  pub goes : (r.size ≡ 0 → ⊥) → Goes c s at work work' count (check_of depth base top dead) (check_of r.depth r.base r.top r.dead) (at + r.size)
  pub ordered : (r.size ≡ 0 → ⊥) → Ordered r.base r.top
  pub flag : (r.size ≡ 0 → ⊥) → r.dead ≤ 1
  pub kept : r.size ≡ 0 → work' ≡ work

-- whatever the table says
pub record PlainFrame (s : List ℕ) (at : ℕ) (work work' : List ℕ) (count depth base top dead : ℕ) (r : Frame) : Type 0 where
  pub is : (c : Context) → ToldFrame c s at work work' count depth base top dead r
