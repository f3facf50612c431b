-- Each way out of the locals' instructions: the local's word says its type, and its mark whether it is set.
use Prim.Native.Nat.{ℕ, ◌+◌, ◌-◌, ◌%◌, ◌^◌, ◌≤◌, ◌<◌}
use mathlib.Core.Path.{◌≡◌, refl, sym, ap, ◌∙◌}
use mathlib.Core.Bool.{Bool, true, false, not}
use mathlib.Core.Option.{Option, none, some}
use mathlib.Core.List.{List, [], ◌∷◌}
use native.Mathlib.Omega.{arith}
use native.Mathlib.Nat.{zero-add}
use lib.ListN.{length, get_or, get_elem?, length-set}
use lib.Dec.{eqb}
use borrow.Author.Tests.{ne_eqb, not-false}
use mir.Syntax.{w32, w64}
use mir.Val.{Fits}
use Rattle.scope.specs.Reading.{got}
use Rattle.scope.specs.Numbers.{u32}
use Rattle.scope.specs.Syntax.{Val}
use Rattle.scope.specs.Instructions.{op, local_get, local_set, local_tee, instr_at}
use Rattle.scope.specs.BodyRules.{Context, Scope, value, values, takes, takes_and_sets, plan_of}
use Rattle.scope.specs.Bodies.{scope_of}
use Rattle.lent_u32.specs.Scratch.{Word32At}
use Rattle.type_table.specs.View.{val_at_code, codes_at, link_at, view}
use Rattle.body_state.specs.Layout.{operands_from, word_bound, code_bound}
use Rattle.body_state.specs.declared.Scene.{Scene}
use Rattle.body_state.specs.State.{val_at_word, stack, is_set_at, context_at, state_at}
use Rattle.body_state.proofs.Alike.{sets_there}
use Rattle.body_state.proofs.Answers.{codes_there}
use Rattle.body_words.proofs.Laws.{known_kept}
use Rattle.body_marks.specs.Marks.{Ready, Marked}
use Rattle.body_quick_read.specs.declared.Item.{Item}
use Rattle.body_quick_read.specs.Items.{NumberTold}
use Rattle.body_quick_take.specs.declared.Done.{Done}
use Rattle.body_quick_take.specs.Taking.{Took, Put}
use Rattle.body_progress.specs.Standing.{check_of}
use Rattle.body_quick_take.specs.Telling.{Asked, Told, Plainly}
use Rattle.body_quick_take.proofs.Tellings.{left-none, told-not, plainly_not, told-put, told-set, told-set-put}
use Rattle.body_quick_take.proofs.Asking.{code-low, took_ordered, took_value, asked_exits}
use Rattle.body_quick_locals.specs.declared.Named.{Named}
use Rattle.body_quick_locals.specs.Locals.{LocalTold, Setting, PutAndSet}

-- the local that is named

type_is : (work : List ℕ) (count x : ℕ) {o : ℕ} → x < count → Word32At work x o → get_elem? (codes_at val_at_word work 0 count) x ≡ some (val_at_code (o % code_bound))
unfolding val_at_word
type_is work count x {o} h a = codes_there val_at_word work 0 count x h ∙ ap (λ (k : ℕ). some (val_at_code (get_or work k 0 % code_bound))) (zero-add x) ∙ ap (λ (k : ℕ). some (val_at_code (k % code_bound))) (sym a.is)

pub no_local : (s : List ℕ) (at : ℕ) (work : List ℕ) (count : ℕ) → LocalTold s at work count (record { number = 0; code = 0; size = 0 })
no_local s at work count = record { is = λ n. absurd (n refl); inside = λ n. absurd (n refl); there = λ n. absurd (n refl); typed = λ n. absurd (n refl); small = omega arith }

pub local_there_lem : {s : List ℕ} {at : ℕ} {q : Item} → NumberTold s at q → {work : List ℕ} {count : ℕ} → q.value < count → {o : ℕ} → Word32At work q.value o → LocalTold s at work count (record { number = q.value; code = o % code_bound; size = q.size })
local_there_lem {q = q} d {work} {count} h {o} w = record { is = d.is; inside = d.inside; there = λ n. h; typed = λ n. type_is work count q.value h w; small = code-low o }

pub ruleset named_exits = (no_local, local_there_lem)

-- what all three ask

module _ {b : ℕ} {s : List ℕ} {at : ℕ} {work : List ℕ} {count depth base top dead : ℕ} (a : Asked b s at work count depth base top dead) {q : Named} (d : LocalTold s (at + 1) work count q) (m : q.size ≡ 0 → ⊥) where
  pub size_fits : length s < 2 ^ 64 → Fits w64 (1 + q.size)
  size_fits l = let i = d.inside m in record { fits = omega arith }

  pub type-fits : Fits w64 (q.code + 2)
  type-fits = let l = d.small in record { fits = omega arith }

  pub number_fits : Fits w32 q.number
  number_fits = let h = d.there m in let f = a.stands.upright.few in record { fits = omega arith }

  pub marks_fit : Fits w64 (q.number + 1)
  marks_fit = let h = d.there m in let f = a.stands.upright.few in record { fits = omega arith }

pub ruleset local_exits = (size_fits, type-fits, number_fits, marks_fit, asked_exits)

-- local.get

read_get : (s : List ℕ) (at n x : ℕ) → get_elem? s at ≡ some 0x20 → u32 s (at + 1) ≡ got x (at + 1 + n) → instr_at s at ≡ got (op (local_get x)) (at + (1 + n))
unfolding instr_at
read_get s at n x e q = let place : at + 1 + n ≡ at + (1 + n) = omega arith in rw (e, q, place)

plan_get : (c : Context) (here : Scope) (x : ℕ) {v : Val} → get_elem? c.locals x ≡ some v → get_or here.is_set x false ≡ true → plan_of c here (local_get x) ≡ takes [] (values (v ∷ []))
unfolding plan_of
plan_get c here x e f = rw (e, f)

isset_is : (work : List ℕ) (count depth base top dead x : ℕ) → x < count → is_set_at work (depth + 1) x ≡ true → get_or (state_at work count (check_of depth base top dead)).is_set x false ≡ true
unfolding state_at
isset_is work count depth base top dead x h e = sets_there work (depth + 1) 0 count x h ∙ ap (is_set_at work (depth + 1)) (zero-add x) ∙ e

module _ {s : List ℕ} {at : ℕ} {work : List ℕ} {count depth base top dead : ℕ} (a : Asked 0x20 s at work count depth base top dead) {q : Named} (d : LocalTold s (at + 1) work count q) (m : q.size ≡ 0 → ⊥) where
  pub get_told : {is_set : Bool} → is_set ≡ is_set_at work (depth + 1) q.number → not is_set ≡ false → {work' : List ℕ} {r : Done} → Put work work' top (q.code + 2) (1 + q.size) r → Plainly s at work work' count depth base top dead r
  get_told {is_set} f g p =
      let x = q.number in
      let yes : is_set_at work (depth + 1) x ≡ true = sym f ∙ not-false is_set g in
      record { is = λ c l. told-put c (local_get x) a.stands (plan_get c (scope_of c (state_at work count (check_of depth base top dead))) x (ap (λ (vs : List Val). get_elem? vs x) l ∙ d.typed m) (isset_is work count depth base top dead x (d.there m) yes)) a.stands.ordered.above (left-none c.types (eqb dead 1) (stack work base (top - base))) (read_get s at q.size x a.byte (d.is m)) (known_kept d.small) p }

pub ruleset get_exits = (local_exits, get_told, plainly_not)

-- local.set and local.tee

read_set : (s : List ℕ) (at n x : ℕ) → get_elem? s at ≡ some 0x21 → u32 s (at + 1) ≡ got x (at + 1 + n) → instr_at s at ≡ got (op (local_set x)) (at + (1 + n))
unfolding instr_at
read_set s at n x e q = let place : at + 1 + n ≡ at + (1 + n) = omega arith in rw (e, q, place)

read_tee : (s : List ℕ) (at n x : ℕ) → get_elem? s at ≡ some 0x22 → u32 s (at + 1) ≡ got x (at + 1 + n) → instr_at s at ≡ got (op (local_tee x)) (at + (1 + n))
unfolding instr_at
read_tee s at n x e q = let place : at + 1 + n ≡ at + (1 + n) = omega arith in rw (e, q, place)

plan_set : (c : Context) (here : Scope) (x : ℕ) {v : Val} → get_elem? c.locals x ≡ some v → plan_of c here (local_set x) ≡ takes_and_sets x (value v ∷ []) (values [])
unfolding plan_of
plan_set c here x e = rw e

plan_tee : (c : Context) (here : Scope) (x : ℕ) {v : Val} → get_elem? c.locals x ≡ some v → plan_of c here (local_tee x) ≡ takes_and_sets x (value v ∷ []) (values (v ∷ []))
unfolding plan_of
plan_tee c here x e = rw e

link_is_lem : (x : ℕ) → link_at (x + 1) ≡ some x
link_is_lem x = let back : x + 1 - 1 ≡ x = omega arith in rw (ne_eqb (x + 1) 0 (λ z. omega arith), back)

module _ {b : ℕ} {s : List ℕ} {at : ℕ} {work : List ℕ} {count depth base top dead : ℕ} (a : Asked b s at work count depth base top dead) where
  pub asked_marks : Ready work count (depth + 1)
  asked_marks = record { room = a.stands.upright.room; few = a.stands.upright.few; some' = omega arith }

  pub asked-setting : (n : ℕ) → Setting work count (depth + 1) (1 + n)
  asked-setting n = record { ready = asked_marks; some' = omega arith }

module _ (rows codes : List ℕ) (k : Scene) {s : List ℕ} {at : ℕ} {work : List ℕ} {depth base top dead : ℕ} (a : Asked 0x21 s at work k.locals depth base top dead) {q : Named} (d : LocalTold s (at + 1) work k.locals q) (m : q.size ≡ 0 → ⊥) {t : ℕ} (taken : Took (view rows codes) work base top dead (q.code + 2) t) (some' : t ≡ 0 → ⊥) where
  pub set_told : {work' : List ℕ} → Marked work work' k.locals (depth + 1) (link_at (q.number + 1)) → Told (context_at rows codes work k) s at work work' k.locals depth base top dead (record { top = t - 1; size = 1 + q.size })
  unfolding context_at
  set_told {work'} g =
      let x = q.number in
      let c = context_at rows codes work k in
      let g' : Marked work work' k.locals (depth + 1) (some x) = rw (link_is_lem x) at g in
      told-set c (local_set x) a.stands (plan_set c (scope_of c (state_at work k.locals (check_of depth base top dead))) x (d.typed m)) (took_ordered a.stands.ordered taken some') (took_value q.code taken some') (read_set s at q.size x a.byte (d.is m)) (omega arith) g'

module _ (rows codes : List ℕ) (k : Scene) {s : List ℕ} {at : ℕ} {work : List ℕ} {depth base top dead : ℕ} (a : Asked 0x22 s at work k.locals depth base top dead) {q : Named} (d : LocalTold s (at + 1) work k.locals q) (m : q.size ≡ 0 → ⊥) {t : ℕ} (taken : Took (view rows codes) work base top dead (q.code + 2) t) (some' : t ≡ 0 → ⊥) {work' : List ℕ} {r : Done} (p : PutAndSet work work' k.locals (depth + 1) (q.number + 1) (t - 1) (q.code + 2) (1 + q.size) r) where
  tee_goes : (n : r.size ≡ 0 → ⊥) → Told (context_at rows codes work k) s at work work' k.locals depth base top dead r
  unfolding context_at
  tee_goes n =
      let x = q.number in
      let c = context_at rows codes work k in
      let g' : Marked (p.between n) work' k.locals (depth + 1) (some x) = rw (link_is_lem x) at (p.marked n) in
      told-set-put c (local_tee x) a.stands (plan_tee c (scope_of c (state_at work k.locals (check_of depth base top dead))) x (d.typed m)) (taken.above some') (took_value q.code taken some') (read_tee s at q.size x a.byte (d.is m)) (known_kept d.small) (p.put n) n g'

  pub tee_told : Told (context_at rows codes work k) s at work work' k.locals depth base top dead r
  tee_told = record { goes = λ n. (tee_goes n).goes n; ordered = λ n. (tee_goes n).ordered n; kept = p.kept }

pub ruleset set_exits = (local_exits, asked_marks, asked-setting, set_told, tee_told, told-not)

-- a value put, then a local set

pub setting_size : {work : List ℕ} {count m size : ℕ} → Setting work count m size → 0 < size
setting_size a = a.some'

module _ {work work₁ : List ℕ} {top w size : ℕ} {r : Done} (p : Put work work₁ top w size r) where
  pub put-not-set : (count m marks : ℕ) → r.size ≡ 0 → PutAndSet work work₁ count m marks top w size r
  put-not-set count m marks z = record { between = λ n. absurd (n z); put = λ n. absurd (n z); marked = λ n. absurd (n z); kept = p.kept }

  module _ (n : r.size ≡ 0 → ⊥) where
    pub put_ready : {count m : ℕ} → Setting work count m size → Ready work₁ count m
    put_ready a =
        let long : length work₁ ≡ length work = ap length (p.words n) ∙ length-set work (operands_from + top) (w % word_bound) in
        let room = a.ready.room in
        record { room = omega arith; few = a.ready.few; some' = a.ready.some' }

    pub put-and-set : {count m marks : ℕ} {work' : List ℕ} → Marked work₁ work' count m (link_at marks) → PutAndSet work work' count m marks top w size r
    put-and-set k = record { between = λ i. work₁; put = λ i. p; marked = λ i. k; kept = λ z. absurd (n z) }

pub ruleset put_exits = (setting_size, put-not-set, put_ready, put-and-set)
