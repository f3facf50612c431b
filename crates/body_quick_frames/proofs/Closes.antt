-- Each way out of the end of a block: its result is taken and nothing is left, and the check stands in the frame around.
use Prim.Native.Nat.{ℕ, zero, suc, ◌+◌, ◌-◌, ◌*◌, ◌%◌, ◌^◌, ◌≤◌, ◌<◌}
use mathlib.Core.Path.{◌≡◌, refl, sym, ap, ◌∙◌}
use mathlib.Core.Bool.{Bool, true, false}
use mathlib.Core.Option.{some}
use mathlib.Core.List.{List, [], ◌∷◌}
use native.Mathlib.Omega.{arith}
use lib.ListN.{length, get_elem?}
use lib.Dec.{eqb}
use borrow.Author.Tests.{eq-eqb, ne_eqb}
use mir.Syntax.{w32, w64}
use mir.Val.{Fits}
use Rattle.std.specs.Prelude.{Some}
use Rattle.scope.specs.Sizes.{most_operands}
use Rattle.scope.specs.Memory.{flag}
use Rattle.scope.specs.Reading.{got}
use Rattle.scope.specs.Syntax.{Types, Val}
use Rattle.scope.specs.Instructions.{Instr, end, instr_at}
use Rattle.scope.specs.BodyRules.{Context, value, allowed, from_top}
use Rattle.scope.specs.Bodies.{take_all, on_top, judge_instr}
use Rattle.scope.proofs.Impossible.{impossible}
use Rattle.lent_u32.specs.Scratch.{Word32At}
use Rattle.type_table.specs.View.{val_at_code, codes_at, view}
use Rattle.body_state.specs.Layout.{frames_from, frame_span, result_word, base_word, height_word, dead_word, code_bound, used_size}
use Rattle.body_state.specs.declared.Check.{Check}
use Rattle.body_state.specs.declared.Scene.{Scene}
use Rattle.body_state.specs.declared.Step.{Step}
use Rattle.body_state.specs.declared.Step
use Rattle.body_state.specs.declared.Values.{Values}
use Rattle.body_state.specs.declared.Values
use Rattle.body_state.specs.State.{val_at_word, values_of, frame_word, stack, context_at, state_at, Rests, above, Upright, Stepped, Stamped, ResultsOf}
use Rattle.body_state.proofs.Answers.{no_results, one_result}
use Rattle.body_words.proofs.Laws.{known_kept, stack-none}
use Rattle.body_operands.specs.declared.Left.{Left}
use Rattle.body_operands.specs.declared.Left
use Rattle.body_operands.specs.Taking.{left_of, left_in}
use Rattle.body_put.specs.Putting.{Pushed}
use Rattle.body_put.proofs.Laws.{pushed_none}
use Rattle.body_push.specs.Gives.{given_of, Gave, GivenTo}
use Rattle.body_push.proofs.Laws.{given_back}
use Rattle.body_end.specs.declared.End.{End}
use Rattle.body_end.specs.declared.End
use Rattle.body_end.specs.Ends.{EndsWith}
use Rattle.body_end.proofs.Ending.{end_fine, inner_now, left-on, block_left}
use Rattle.body_progress.specs.Standing.{Ordered, check_of}
use Rattle.body_quick_take.specs.declared.Done.{Done}
use Rattle.body_quick_take.specs.Taking.{Took, Put}
use Rattle.body_quick_take.specs.Telling.{Asked, Goes}
use Rattle.body_quick_take.proofs.Tellings.{left-none, put_pushed}
use Rattle.body_quick_take.proofs.Asking.{took_value}
use Rattle.body_quick_frames.specs.declared.Frame.{Frame}
use Rattle.body_quick_frames.specs.Frames.{AskedEnd, ToldFrame}
use Rattle.body_quick_frames.proofs.Opens.{frame_not}

read_end : (s : List ℕ) (at : ℕ) → get_elem? s at ≡ some 0x0B → instr_at s at ≡ got end (at + 1)
unfolding instr_at
read_end s at e = rw e

flag_back : (d : Bool) → eqb (flag d) 1 ≡ d
flag_back true = refl
flag_back false = refl

flag_few : (d : Bool) → flag d ≤ 1
flag_few true = omega arith
flag_few false = omega arith

-- the operands below a frame are those of the frames around it
below-sum : {work : List ℕ} (d : ℕ) {base : ℕ} → Rests work (suc d) base → base ≡ frame_word work (d + 2) base_word + frame_word work (d + 2) height_word
below-sum d (above r e) = e

-- the check in the frame around
outer_check : (depth outer height more : ℕ) (d : Bool) → ◌≡◌ {A = Check} (record { depth = depth - 1; base = outer; height = height + more; dead = d }) (check_of (depth - 1) outer (outer + height + more) (flag d))
outer_check depth outer height more d =
    let one : height + more ≡ outer + height + more - outer = omega arith in
    let two = sym (flag_back d) in
    λ i. record { depth = depth - 1; base = outer; height = one i; dead = two i }

module _ (rows codes : List ℕ) (k : Scene) {s : List ℕ} {at : ℕ} {work : List ℕ} {depth base top dead w outer height unknowns : ℕ} (a : AskedEnd s at work k.locals depth base top dead w outer height unknowns) where
  low_sum : outer + height ≤ most_operands
  low_sum =
      let u = a.asked.stands in
      let d = a.some' in
      let one : depth ≡ suc (depth - 1) = omega (arith, d) in
      let two : depth - 1 + 2 ≡ depth + 1 = omega (arith, d) in
      let rests : Rests work (suc (depth - 1)) base = rw one at u.upright.rests in
      let sum : base ≡ frame_word work (depth + 1) base_word + frame_word work (depth + 1) height_word = rw two at (below-sum (depth - 1) rests) in
      let b = a.outer'.is in
      let h = a.height'.is in
      let above' = u.ordered.above in
      let low = u.ordered.low in
      omega arith

  module _ (list : Values) (l : ResultsOf work (depth + 1) list) (taken : left_in (take_all (view rows codes) (eqb dead 1) (from_top (values_of codes list)) (stack work base (top - base))) ≡ allowed (stack work base 0)) {work' : List ℕ} (more : ℕ) (g : Gave work work' outer height (values_of codes list) (height + more)) where
    ends : EndsWith rows codes work list base (top - base) (eqb dead 1) End.TheVariants.Fine
    ends = end_fine rows codes work list base (top - base) (eqb dead 1) {r = Left.TheVariants.Is 0} refl (sym taken) refl

    given_to : GivenTo work work' outer height (given_of codes list true 0) (Some (height + more))
    given_to = rw (given_back codes list) (record { gave = λ h e. let same : height + more ≡ h = cc in rw (← same) g; full = λ e. impossible cc })

    steps : Stepped work work' k.locals depth (judge_instr (context_at rows codes work k) (state_at work k.locals (check_of depth base top dead)) end) (Step.TheVariants.On (record { depth = depth - 1; base = outer; height = height + more; dead = eqb unknowns 1 }))
    steps =
        let i = inner_now a.asked.stands.upright a.some' in
        block_left k a.some' l ends refl (left-on i a.outer' a.height' a.unknowns' codes list refl given_to)

    pub end-told : ToldFrame (context_at rows codes work k) s at work work' k.locals depth base top dead (record { depth = depth - 1; base = outer; top = outer + height + more; dead = flag (eqb unknowns 1); size = 1 })
    end-told =
        let here = steps in
        let st' : Check = record { depth = depth - 1; base = outer; height = height + more; dead = eqb unknowns 1 } in
        let goes : Goes (context_at rows codes work k) s at work work' k.locals (check_of depth base top dead) st' (at + 1) =
        record {
          instr = end;
          reads = read_end s at a.asked.byte;
          judged = sym here.answer;
          upright = here.upright st' refl;
          stamped = λ old. let new = here.stamped st' refl at old in record { locals = λ i h. let q = new.locals i h in omega arith; frames = λ m h. let q = new.frames m h in omega arith };
          types = here.types;
          size = here.size;
        } in
        let few = g.few in
        record {
          goes = λ n. rw (outer_check depth outer height more (eqb unknowns 1)) at goes;
          ordered = λ n. record { above = omega arith; low = omega arith };
          flag = λ n. flag_few (eqb unknowns 1);
          kept = λ z. absurd (omega arith);
        }

-- the flag of a word

pub flag-yes : {w : ℕ} → w ≡ 1 → 1 ≡ flag (eqb w 1)
flag-yes {w} e = rw (eq-eqb w 1 e)

pub flag-no : {w : ℕ} → (w ≡ 1 → ⊥) → 0 ≡ flag (eqb w 1)
flag-no {w} n = rw (ne_eqb w 1 n)

pub ruleset flag_exits = (flag-yes, flag-no)

-- with a result

module _ {s : List ℕ} {at : ℕ} {work : List ℕ} {count depth base top dead w outer height unknowns : ℕ} (a : AskedEnd s at work count depth base top dead w outer height unknowns) where
  pub end_ordered : Ordered base top
  end_ordered = a.asked.stands.ordered

  pub more_fits : Fits w64 (base + 1)
  more_fits = let h = a.asked.stands.ordered.above in let l = a.asked.stands.ordered.low in record { fits = omega arith }

  pub below-fits : Fits w64 (outer + height)
  below-fits = let o = a.outer'.small in let h = a.height'.small in record { fits = omega arith }

  pub above-fits : Fits w64 (outer + height + 1)
  above-fits = let o = a.outer'.small in let h = a.height'.small in record { fits = omega arith }

  pub shallower : 1 ≤ depth
  shallower = omega (arith, a.some')

pub result_code_lem : (w : ℕ) → Fits w64 ((w - 1) % code_bound + 2)
result_code_lem w = record { fits = omega arith }

one_gave : (codes : List ℕ) {work work' : List ℕ} (outer height w : ℕ) {r : Done} → used_size ≤ length work → Put work work' (outer + height) ((w - 1) % code_bound + 2) 1 r → (r.size ≡ 0 → ⊥) → Gave work work' outer height (values_of codes (Values.TheVariants.One (w - 1))) (height + 1)
unfolding values_of val_at_word
one_gave codes {work} {work'} outer height w room p n =
    let low = p.low n in
    let small : (w - 1) % code_bound < code_bound = omega arith in
    let one : outer + height - outer ≡ height = omega arith in
    let two : outer + height + 1 - outer ≡ height + 1 = omega arith in
    let over : outer ≤ outer + height = omega arith in
    let put = put_pushed {base = outer} room over p n (known_kept small) in
    record { high = refl; few = omega arith; pushed = rw (one, two) at put }

module _ (rows codes : List ℕ) (k : Scene) {s : List ℕ} {at : ℕ} {work : List ℕ} {depth base top dead w outer height unknowns : ℕ} (a : AskedEnd s at work k.locals depth base top dead w outer height unknowns) (some'' : w ≡ 0 → ⊥) {t : ℕ} (taken : Took (view rows codes) work base top dead ((w - 1) % code_bound + 2) t) (one : t ≡ base + 1) {work' : List ℕ} {r : Done} (p : Put work work' (outer + height) ((w - 1) % code_bound + 2) 1 r) where
  pub end-no_room : r.size ≡ 0 → {f : Frame} → f ≡ record { depth = 0; base = 0; top = 0; dead = 0; size = 0 } → ToldFrame (context_at rows codes work k) s at work work' k.locals depth base top dead f
  end-no_room z e = frame_not (context_at rows codes work k) s at k.locals depth base top dead e (p.kept z)

  pub end-one : (r.size ≡ 0 → ⊥) → {d : ℕ} → d ≡ flag (eqb unknowns 1) → ToldFrame (context_at rows codes work k) s at work work' k.locals depth base top dead (record { depth = depth - 1; base = outer; top = outer + height + 1; dead = d; size = 1 })
  unfolding values_of val_at_word
  end-one n {d} e =
      let none' : t ≡ 0 → ⊥ = λ z. omega arith in
      let left : t - 1 - base ≡ 0 = omega arith in
      let take : left_in (take_all (view rows codes) (eqb dead 1) (value (val_at_code ((w - 1) % code_bound)) ∷ []) (stack work base (top - base))) ≡ allowed (stack work base 0) = took_value ((w - 1) % code_bound) taken none' ∙ ap (λ (h : ℕ). allowed (stack work base h)) left in
      let told = end-told rows codes k a (Values.TheVariants.One (w - 1)) (one_result (depth + 1) a.result some'') take 1 (one_gave codes outer height w a.asked.stands.upright.room p n) in
      rw e told

pub ruleset one_exits = (end_ordered, more_fits, below-fits, above-fits, shallower, result_code_lem, end-no_room, end-one, frame_not)

-- without one, and which of the two

module _ {s : List ℕ} {at : ℕ} {work : List ℕ} {count depth base top dead : ℕ} (a : Asked 0x0B s at work count depth base top dead) (some' : depth ≡ 0 → ⊥) where
  pub frame_fits : Fits w64 (depth + 1)
  frame_fits = let d = a.stands.upright.deep in record { fits = omega arith }

  pub frame_fits32 : Fits w32 (depth + 1)
  frame_fits32 = let d = a.stands.upright.deep in record { fits = omega arith }

  module _ {w : ℕ} (b : Word32At work (frames_from + (frame_span * (depth + 1) + result_word)) w) {outer : ℕ} (o : Word32At work (frames_from + (frame_span * (depth + 1) + base_word)) outer) {height : ℕ} (h : Word32At work (frames_from + (frame_span * (depth + 1) + height_word)) height) {unknowns : ℕ} (d : Word32At work (frames_from + (frame_span * (depth + 1) + dead_word)) unknowns) where
    pub asked-end : AskedEnd s at work count depth base top dead w outer height unknowns
    asked-end = record { asked = a; some' = some'; result = b; outer' = o; height' = h; unknowns' = d }

pub words-fit : {work : List ℕ} {i j outer height : ℕ} → Word32At work i outer → Word32At work j height → Fits w64 (outer + height)
words-fit o h = let a = o.small in let b = h.small in record { fits = omega arith }

module _ (rows codes : List ℕ) (k : Scene) {s : List ℕ} {at : ℕ} {work : List ℕ} {depth base top dead : ℕ} {w outer height unknowns : ℕ} (a : AskedEnd s at work k.locals depth base top dead w outer height unknowns) where
  pub end_none : w ≡ 0 → top ≡ base → {d : ℕ} → d ≡ flag (eqb unknowns 1) → ToldFrame (context_at rows codes work k) s at work work k.locals depth base top dead (record { depth = depth - 1; base = outer; top = outer + height; dead = d; size = 1 })
  unfolding values_of codes_at
  end_none z same {d} e =
      let none' : top - base ≡ 0 = omega arith in
      let sum : outer + height + 0 ≡ outer + height = omega arith in
      let high : height + 0 ≡ height = omega arith in
      let low = low_sum rows codes k a in
      let pushed : Pushed work work outer height (height + 0) [] = rw high (pushed_none work outer height) in
      let take = left-none (view rows codes) (eqb dead 1) (stack work base (top - base)) ∙ ap (λ (h : ℕ). allowed (stack work base h)) none' in
      let told = end-told rows codes k a (Values.TheVariants.Types 0 0) (no_results (depth + 1) a.result z) take 0 (record { high = refl; few = omega arith; pushed = pushed }) in
      rw (e, ← sum) told

pub ruleset close_exits = (frame_fits, frame_fits32, asked-end, words-fit, end_none, frame_not)
