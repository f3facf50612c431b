-- Which of them, by the first byte.
use Prim.Native.Nat.{ℕ, ◌<◌, ◌≤◌}
use mathlib.Core.Path.{◌≡◌, ap, ◌∙◌}
use mathlib.Core.Option.{some}
use mathlib.Core.List.{List}
use native.Mathlib.Omega.{arith}
use lib.ListN.{get_elem?}
use Rattle.scope.specs.BodyRules.{Context}
use Rattle.body_quick_read.specs.Items.{ByteOr}
use Rattle.body_quick_take.specs.Telling.{Asked}
use Rattle.body_quick_frames.specs.declared.Frame.{Frame}
use Rattle.body_quick_frames.specs.Frames.{FacingFrame, AskedFrame, ToldFrame, PlainFrame}
use Rattle.body_quick_frames.proofs.Opens.{frame_not}

module _ {b : ℕ} {s : List ℕ} {at : ℕ} {work : List ℕ} {count depth base top dead : ℕ} (f : FacingFrame b s at work count depth base top dead) where
  pub asked_as : {k : ℕ} → b ≡ k → k < 256 → Asked k s at work count depth base top dead
  asked_as {k} e h =
      let low : b < 256 = omega arith in
      record { byte = f.byte.is low ∙ ap some e; inside = f.byte.inside low; small = h; stands = f.stands }

  pub asked_frame : {k : ℕ} → b ≡ k → k < 256 → AskedFrame k s at work count depth base top dead
  asked_frame e h = record { asked = asked_as e h; stamped = f.stamped; early = f.early }

pub plain_frame : (c : Context) {s : List ℕ} {at : ℕ} {work work' : List ℕ} {count depth base top dead : ℕ} {r : Frame} → PlainFrame s at work work' count depth base top dead r → ToldFrame c s at work work' count depth base top dead r
plain_frame c p = p.is c

pub ruleset framed_exits = (asked_as, asked_frame, plain_frame, frame_not)
