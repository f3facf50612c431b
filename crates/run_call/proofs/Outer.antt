-- From the run outwards: a refusal leaves the state zero; and what is told over the cleared state is told over the state as it
-- was lent, since only sizes are looked at.
use Prim.Native.Nat.{ℕ, ◌-◌}
use mathlib.Core.Path.{◌≡◌, refl, sym, ap, ◌∙◌}
use mathlib.Core.Bool.{Bool, true, ◌&&◌}
use mathlib.Core.List.{List, ◌++◌}
use lib.ListN.{length, replicate}
use borrow.Author.Tests.{leb-true}
use Rattle.std.specs.Prelude.{Result}
use Rattle.scope.specs.declared.Rejected.{Rejected}
use Rattle.scope.specs.declared.Place.{Place}
use Rattle.scope.specs.declared.Ran.{Ran}
use Rattle.scope.specs.declared.Ran
use Rattle.scope.specs.Layout.{counts_size, objects_size, cells_size, locals_size, operands_size, blocks_size}
use Rattle.scope.specs.Judging.{Judged, accepted, rejected}
use Rattle.scope.specs.Running.{Trial, trial_run}
use Rattle.scope.specs.Memory.{StateWords, state_words, filled, wiped}
use Rattle.scope.specs.Answers.{lent_after, lent_enough, state_lent, run_call, machine_of, ran_of, RunTried}
use Rattle.scope.proofs.Truths.{from_both}
use Rattle.run_buffers.specs.States.{state_of, memory, Cleared}
use Rattle.run_limits.specs.Limits.{scratch_lent}
use Rattle.run_ending.specs.Wiping.{ScratchCleared}
use Rattle.run_prepare.specs.Preparing.{PreparedFor}
use Rattle.run_prepare.proofs.Ways.{wiped_long, wiped-zero}
use Rattle.run_call.specs.Trial.{StateRoom, Zeroed, Tried, Waiting, RunPrepared}

-- lent buffers

-- a buffer that is filled looks only at its length
pub filled_long : (m m' ws : List ℕ) → length m' ≡ length m → filled m' ws ≡ filled m ws
filled_long m m' ws e = ap (λ (n : ℕ). ws ++ replicate (n - length ws) 0) e

-- a refusal

pub refused_tried :
    {s : List ℕ} {want : Judged Trial} {n : ℕ} {p : Place} {c o e l q b c' o' e' l' q' b' : List ℕ} → want ≡ rejected n p → Zeroed (state_of c o e l q b)
    → c' ≡ c → o' ≡ o → e' ≡ e → l' ≡ l → q' ≡ q → b' ≡ b
    → Tried s want (state_of c o e l q b) (state_of c' o' e' l' q' b') (Ran.TheVariants.Refused n p)
refused_tried w z ce oe ee le qe be =
    rw w (record {
      answer = refl;
      counts = ce ∙ z.counts;
      objects = oe ∙ z.objects;
      cells = ee ∙ z.cells;
      locals = le ∙ z.locals;
      operands = qe ∙ z.operands;
      blocks = be ∙ z.blocks;
    })

-- the sizes

room_of : (state : StateWords) → state_lent state ≡ true → StateRoom state
room_of state e =
    let (e₅, blocks) = from_both _ _ e in
    let (e₄, operands) = from_both _ _ e₅ in
    let (e₃, locals) = from_both _ _ e₄ in
    let (e₂, cells) = from_both _ _ e₃ in
    let (counts, objects) = from_both _ _ e₂ in
    record {
      counts = leb-true counts_size (length state.counts) counts;
      objects = leb-true objects_size (length state.objects) objects;
      cells = leb-true cells_size (length state.cells) cells;
      locals = leb-true locals_size (length state.locals) locals;
      operands = leb-true operands_size (length state.operands) operands;
      blocks = leb-true blocks_size (length state.blocks) blocks;
    }

-- the whole call

cleared_zeroed : {state state₁ : StateWords} → Cleared state state₁ → Zeroed state₁
cleared_zeroed {state} z =
    record {
      counts = wiped-zero state.counts z.counts;
      objects = wiped-zero state.objects z.objects;
      cells = wiped-zero state.cells z.cells;
      locals = wiped-zero state.locals z.locals;
      operands = wiped-zero state.operands z.operands;
      blocks = wiped-zero state.blocks z.blocks;
    }

-- the words of a buffer afterwards depend on its length alone
after-wiped : {A : Type 0} (words : A → List ℕ) (m : List ℕ) {m₁ : List ℕ} {j j₁ : Judged A} → m₁ ≡ wiped m → j₁ ≡ j → lent_after words m₁ j₁ ≡ lent_after words m j
after-wiped words m {m₁} {j} e f = ap (lent_after words m₁) f ∙ go j
  where
    go : (j : Judged _) → lent_after words m₁ j ≡ lent_after words m j
    go (accepted a) = filled_long m m₁ (words a) (wiped_long m e)
    go (rejected n p) = rw (wiped_long m e)

module _ {state state₁ : StateWords} (z : Cleared state state₁) where
  call_cleared :
      (library section s : List ℕ) (x budget : ℕ) (rows shared codes work ends : List ℕ)
      → run_call library section s x budget (memory rows shared codes work ends state₁) ≡ run_call library section s x budget (memory rows shared codes work ends state)
  call_cleared library section s x budget rows shared codes work ends =
      rw (wiped_long state.counts z.counts, wiped_long state.objects z.objects, wiped_long state.cells z.cells, wiped_long state.locals z.locals, wiped_long state.operands z.operands, wiped_long state.blocks z.blocks)

-- the state is zero and, where a run is due, has room
pub may_wait :
    {state state₁ : StateWords} → Cleared state state₁ → {enough : Bool} → enough ≡ state_lent state₁ → {library section s : List ℕ} {x budget : ℕ} {scratch : Bool}
    {rows₁ codes₁ work₁ ends₁ : List ℕ} {prepared : Result (ℕ × ℕ × ℕ) Rejected} → PreparedFor library section s x budget scratch enough rows₁ codes₁ work₁ ends₁ prepared
    → Waiting s budget rows₁ codes₁ work₁ ends₁ state₁ prepared
may_wait {state₁ = state₁} z {enough} f {library} {section} {s} {x} {budget} {scratch} p =
    record {
      want = lent_enough (scratch && enough) (trial_run library section s x budget);
      prepares = p.is;
      zero = cleared_zeroed z;
      room = λ count results next e. room_of state₁ (sym f ∙ p.room count results next e);
    }

module _ {state state₁ : StateWords} (z : Cleared state state₁) {enough : Bool} (f : enough ≡ state_lent state₁) {library section s : List ℕ} {x budget : ℕ}
    {rows shared codes work ends rows₁ codes₁ work₁ ends₁ : List ℕ} {prepared : Result (ℕ × ℕ × ℕ) Rejected}
    (p : PreparedFor library section s x budget (scratch_lent rows shared codes work ends) enough rows₁ codes₁ work₁ ends₁ prepared) where
  pub tried_whole :
      {state₂ : StateWords} {r : Ran} → RunPrepared s budget rows₁ codes₁ work₁ ends₁ state₁ state₂ prepared r
      → {rows₂ shared₂ codes₂ work₂ ends₂ rows₃ shared₃ codes₃ work₃ ends₃ : List ℕ} → ScratchCleared rows₂ shared₂ codes₂ work₂ ends₂ rows₃ shared₃ codes₃ work₃ ends₃
      → length rows₂ ≡ length rows → length shared₂ ≡ length shared → length codes₂ ≡ length codes → length work₂ ≡ length work → length ends₂ ≡ length ends
      → RunTried library section s x budget (memory rows shared codes work ends state) (memory rows₃ shared₃ codes₃ work₃ ends₃ state₂) r
  tried_whole ran w re he ce we ee =
      let same = call_cleared z library section s x budget rows shared codes work ends in
      let t : Tried s (run_call library section s x budget (memory rows shared codes work ends state₁)) state₁ _ _ = ran.is _ (rw f at p.is) in
      record {
        answer = t.answer ∙ ap (ran_of s) same;
        rows_after = w.rows_zero ∙ ap (λ (n : ℕ). replicate n 0) re;
        shared_after = w.shared_zero ∙ ap (λ (n : ℕ). replicate n 0) he;
        codes_after = w.codes_zero ∙ ap (λ (n : ℕ). replicate n 0) ce;
        work_after = w.work_zero ∙ ap (λ (n : ℕ). replicate n 0) we;
        ends_after = w.ends_zero ∙ ap (λ (n : ℕ). replicate n 0) ee;
        counts = t.counts ∙ after-wiped (λ t. (state_words s (machine_of t.ending)).counts) state.counts z.counts same;
        objects = t.objects ∙ after-wiped (λ t. (state_words s (machine_of t.ending)).objects) state.objects z.objects same;
        cells = t.cells ∙ after-wiped (λ t. (state_words s (machine_of t.ending)).cells) state.cells z.cells same;
        locals = t.locals ∙ after-wiped (λ t. (state_words s (machine_of t.ending)).locals) state.locals z.locals same;
        operands = t.operands ∙ after-wiped (λ t. (state_words s (machine_of t.ending)).operands) state.operands z.operands same;
        blocks = t.blocks ∙ after-wiped (λ t. (state_words s (machine_of t.ending)).blocks) state.blocks z.blocks same;
      }
