-- One instruction after the other: every block that was passed is closed, with the place after its end at its own place,
-- or is one of the open blocks.
use Prim.Native.Nat.{ℕ, zero, suc, ◌+◌, ◌≤◌, ◌<◌, ◌%◌}
use mathlib.Core.Path.{◌≡◌, refl, sym, ap, ◌∙◌, subst}
use mathlib.Core.Logic.{◌⊎◌, inl, inr}
use mathlib.Core.Bool.{Bool, true, false, false≢true}
use mathlib.Core.List.Memᴰ
use mathlib.Core.List.{List, [], ◌∷◌, Memᴰ}
use native.Mathlib.Omega.{arith}
use lib.ListN.{length, get_or, set}
use lib.Dec.{eqb}
use borrow.Author.Tests.{eqb-true, eqb-false}
use Rattle.std.specs.Prelude.{Result, Ok, Err, None, Some}
use Rattle.scope.specs.declared.Refused.{Refused}
use Rattle.scope.specs.Told.{Maybe}
use Rattle.scope.specs.Sizes.{most_bytes}
use Rattle.scope.specs.Reading.{Read, got, refused}
use Rattle.scope.specs.Syntax.{Val}
use Rattle.scope.specs.Instructions.{Op, Instr, block, loop, end, op, instr_at}
use Rattle.scope.specs.Bodies.{Code}
use Rattle.scope.specs.Machine.{past_ends}
use Rattle.scope.proofs.Forward.{never_back}
use Rattle.scope.proofs.ForwardBodies.{instr_takes}
use Rattle.scope.proofs.Truths.{decided}
use Rattle.scope.proofs.Impossible.{contradiction, impossible}
use Rattle.lent_u16.specs.Words.{word_limit}
use Rattle.body_immediates.specs.declared.Instruction.{Instruction}
use Rattle.body_immediates.specs.Coding.{instruction_of, instruction_is}
use Rattle.body_immediates.proofs.Laws.{instruction_got, instruction_refused}
use Rattle.run_ends.specs.declared.Kind.{Kind}
use Rattle.run_ends.specs.declared.Kind
use Rattle.run_ends.specs.Noting.{kind_of, KindIs, NotedAt, none_there}
use Rattle.run_ends.specs.Matching.{code_at, Balanced, last, closing, opening_block, opening_loop, inside, Reached, here, further, Opener, is_block, is_loop, Lands, EndsOf, Fillable, Filled}
use Rattle.run_ends.proofs.Codes.{code_here, code_refused, code-none, reached_next, one_next, past_own_end}
use Rattle.lent_u16.proofs.Stores.{Stored, stored}
use Rattle.run_ends.proofs.Chain.{Open, none_open, one_open, open_from, open_later, word_small, open_in, Innermost, innermost_open, no-places, past_inside, past_block_lem, past_loop, past_end}

noted_one : {m n : ℕ} → Some m ≡ Some n → m ≡ n
noted_one e = cc

-- a block or a loop is what it is

opener_kind : {s : List ℕ} {at next onward : ℕ} {i : Instr} → Opener s at onward → instr_at s at ≡ got i next → kind_of i ≡ Kind.TheVariants.Opens
opener_kind {i = i} (is_block {rs} e) read = let same : i ≡ block rs = cc in rw same
opener_kind {i = i} (is_loop {rs} e) read = let same : i ≡ loop rs = cc in rw same

opener_next : {s : List ℕ} {at next onward : ℕ} → Opener s at next → Opener s at onward → next ≡ onward
opener_next (is_block e) (is_block f) = one_next e f
opener_next (is_block e) (is_loop f) = one_next e f
opener_next (is_loop e) (is_block f) = one_next e f
opener_next (is_loop e) (is_loop f) = one_next e f

not_refused : {s : List ℕ} {at onward n p : ℕ} → Opener s at onward → instr_at s at ≡ refused n p → ⊥
not_refused (is_block e) f = contradiction cc
not_refused (is_loop e) f = contradiction cc

-- what a reached place is, where one instruction was read
ahead_of : {s : List ℕ} {here₀ next at : ℕ} {i : Instr} → instr_at s here₀ ≡ got i next → Reached s here₀ at → (at ≡ here₀) ⊎ Reached s next at
ahead_of read here = inl refl
ahead_of {s} {at = at} read (further e r) = inr (subst (λ (n : ℕ). Reached s n at) (one_next e read) r)

-- what is open, by one instruction

balanced_inside : {n at : ℕ} {code : Code} {o : Op} → Balanced n ((at, op o) ∷ code) → Balanced n code
balanced_inside (inside b) = b

balanced_block : {n at : ℕ} {code : Code} {rs : List Val} → Balanced n ((at, block rs) ∷ code) → Balanced (suc n) code
balanced_block (opening_block b) = b

balanced_loop : {n at : ℕ} {code : Code} {rs : List Val} → Balanced n ((at, loop rs) ∷ code) → Balanced (suc n) code
balanced_loop (opening_loop b) = b

balanced_end : {n at : ℕ} {code : Code} → Balanced (suc n) ((at, end) ∷ code) → Balanced n code
balanced_end (closing b) = b

balanced_last : {at : ℕ} {code : Code} → Balanced 0 ((at, end) ∷ code) → code ≡ []
balanced_last last = refl

not_balanced : {n : ℕ} → Balanced n [] → ⊥
not_balanced = elim [ ]

-- the loop

-- a block or loop: closed, or open, or not yet read
pub data Passed (s : List ℕ) (first : ℕ) (ends : List ℕ) (next : ℕ) (places : List ℕ) (at onward : ℕ) : Type 0 where
  closed : Lands s first onward (get_or ends at 0) → Passed s first ends next places at onward
  still_open : Memᴰ at places → Passed s first ends next places at onward
  ahead : Reached s next at → Passed s first ends next places at onward

pub record Going (s ends₀ : List ℕ) (first : ℕ) (ends : List ℕ) (next innermost done : ℕ) : Type 0 where
  pub places : List ℕ
  pub chain : Open s ends (code_at s next) next 1 innermost places
  pub passed : (at onward : ℕ) → Reached s first at → Opener s at onward → Passed s first ends next places at onward
  pub reached : Reached s first next
  pub inside : next ≤ length s
  pub counted : done ≤ next
  pub balances : Balanced 0 (code_at s first) → Balanced (length places) (code_at s next)
  pub balanced : Balanced (length places) (code_at s next) → Balanced 0 (code_at s first)
  pub size : length ends ≡ length ends₀

pub going_first : {s ends : List ℕ} {first : ℕ} → Fillable s ends first → Going s ends first ends first 0 0
going_first f =
    record {
      places = [];
      chain = none_open;
      passed = λ at onward r o. ahead r;
      reached = here;
      inside = f.inside;
      counted = omega arith;
      balances = λ b. b;
      balanced = λ b. b;
      size = refl;
    }

module _ {s ends₀ : List ℕ} {first : ℕ} {ends : List ℕ} {next innermost done : ℕ} (g : Going s ends₀ first ends next innermost done) where
  -- nothing is left to read
  stopped : code_at s next ≡ [] → Filled s ends₀ ends first false
  stopped e =
      record {
        matching = λ f. absurd (false≢true f);
        balanced = λ f. absurd (false≢true f);
        told = λ b. absurd (not_balanced (subst (Balanced (length g.places)) e (g.balances b)));
        size = g.size;
      }

  pub going_out : length s ≤ done → Filled s ends₀ ends first false
  going_out h = stopped (code-none s next (omega (arith, g.counted)))

  module _ (f : Fillable s ends₀ first) {j : Instr} {onto : ℕ} (read : instr_at s next ≡ got j onto) where
    -- one instruction on
    advance :
        {ends' : List ℕ} {word : ℕ} (places : List ℕ) → Open s ends' (code_at s onto) onto 1 word places
        → ((at onward : ℕ) → Reached s first at → Opener s at onward → Passed s first ends' onto places at onward)
        → (Balanced (length g.places) ((next, j) ∷ code_at s onto) → Balanced (length places) (code_at s onto))
        → (Balanced (length places) (code_at s onto) → Balanced (length g.places) ((next, j) ∷ code_at s onto)) → length ends' ≡ length ends
        → Going s ends₀ first ends' onto word (done + 1)
    advance places chain passed to from size =
        let (forward, ends-inside) = never_back instr_takes s next read in
        record {
          places = places;
          chain = chain;
          passed = passed;
          reached = reached_next g.reached read;
          inside = ends-inside;
          counted = omega (arith, g.counted);
          balances = λ b. to (subst (Balanced (length g.places)) (code_here s next read) (g.balances b));
          balanced = λ b. g.balanced (subst (Balanced (length g.places)) (sym (code_here s next read)) (from b));
          size = size ∙ g.size;
        }

  module _ (f : Fillable s ends₀ first) {onto : ℕ} where
    turn_inside : {o : Op} → instr_at s next ≡ got (op o) onto → Going s ends₀ first ends onto innermost (done + 1)
    turn_inside {o} read =
        let (forward, ends-inside) = never_back instr_takes s next read in
        let same : (n : ℕ) → past_ends (n + 1) (code_at s next) ≡ past_ends (n + 1) (code_at s onto) = λ n. ap (past_ends (n + 1)) (code_here s next read) ∙ past_inside next n (code_at s onto) o in
        let bound : next ≤ onto = omega arith in
        advance f read g.places (open_later bound (open_from same g.chain)) (λ at onward r opener. go at onward opener (g.passed at onward r opener)) balanced_inside inside refl
      where
        go : (at onward : ℕ) → Opener s at onward → Passed s first ends next g.places at onward → Passed s first ends onto g.places at onward
        go at onward opener (closed lands) = closed lands
        go at onward opener (still_open m) = still_open m
        go at onward opener (ahead r) = by (ahead_of read r)
          where
            by : (at ≡ next) ⊎ Reached s onto at → Passed s first ends onto g.places at onward
            by (inl e) = absurd (let wrong : Kind.TheVariants.Inside ≡ Kind.TheVariants.Opens = opener_kind (rw e at opener) read in contradiction cc)
            by (inr r) = ahead r

    -- a block or a loop
    turn_opens :
        {ends' : List ℕ} {j : Instr} → instr_at s next ≡ got j onto → Opener s next onto → ((n : ℕ) → past_ends (n + 1) ((next, j) ∷ code_at s onto) ≡ past_ends (n + 2) (code_at s onto))
        → (Balanced (length g.places) ((next, j) ∷ code_at s onto) → Balanced (suc (length g.places)) (code_at s onto))
        → (Balanced (suc (length g.places)) (code_at s onto) → Balanced (length g.places) ((next, j) ∷ code_at s onto)) → Stored ends ends' next innermost
        → Going s ends₀ first ends' onto (suc next) (done + 1)
    turn_opens {ends'} {j} read opener shift to from st =
        let (forward, ends-inside) = never_back instr_takes s next read in
        let same : (n : ℕ) → past_ends (n + 1) (code_at s next) ≡ past_ends (n + 2) (code_at s onto) = λ n. ap (past_ends (n + 1)) (code_here s next read) ∙ shift n in
        let kept : Open s ends' (code_at s onto) next 2 innermost g.places = open_in (λ i h. st.others i (λ e. omega arith)) (open_from same g.chain) in
        let link : Open s ends' (code_at s onto) next 2 (get_or ends' next 0) g.places = rw st.here kept in
        advance f read (next ∷ g.places) (one_open forward opener refl link) (λ at onward r o. go at onward o (decided (eqb at next)) (g.passed at onward r o)) to from st.size
      where
        go : (at onward : ℕ) → Opener s at onward → (eqb at next ≡ true) ⊎ (eqb at next ≡ false) → Passed s first ends next g.places at onward → Passed s first ends' onto (next ∷ g.places) at onward
        go at onward o (inl e) p = still_open (Memᴰ.head (eqb-true at next e))
        go at onward o (inr e) (closed lands) = closed (rw (st.others at (eqb-false at next e)) lands)
        go at onward o (inr e) (still_open m) = still_open (Memᴰ.tail m)
        go at onward o (inr e) (ahead r) = by (ahead_of read r)
          where
            by : (at ≡ next) ⊎ Reached s onto at → Passed s first ends' onto (next ∷ g.places) at onward
            by (inl q) = absurd (eqb-false at next e q)
            by (inr r) = ahead r

    -- an end inside the function
    turn_closes : {ends' : List ℕ} {p : ℕ} → innermost ≡ suc p → instr_at s next ≡ got end onto → Stored ends ends' p onto → Going s ends₀ first ends' onto (get_or ends p 0) (done + 1)
    turn_closes {ends'} {p} is read st = go (innermost_open (rw is at g.chain))
      where
        forward : (next < onto) × (onto ≤ length s)
        forward = never_back instr_takes s next read

        lands : (onward : ℕ) → past_ends 1 (code_at s onward) ≡ past_ends 1 (code_at s next) → Lands s first onward (get_or ends' p 0)
        lands onward e =
            rw st.here
            (record {
              code = sym (e ∙ ap (past_ends 1) (code_here s next read) ∙ past_own_end next (code_at s onto));
              reached = reached_next g.reached read;
              inside = forward.1;
            })

        pass : (n : Innermost s ends (code_at s next) next 1 p g.places) (at onward : ℕ) → Opener s at onward → (eqb at p ≡ true) ⊎ (eqb at p ≡ false) → Passed s first ends next g.places at onward → Passed s first ends' onto n.outer at onward
        pass n at onward o (inl e) q =
            let same : at ≡ p = eqb-true at p e in
            let next_one : n.onward ≡ onward = opener_next n.opener (rw same at o) in
            closed (rw (same, ← next_one) (lands n.onward n.is))
        pass n at onward o (inr e) (closed is-there) = closed (rw (st.others at (eqb-false at p e)) is-there)
        pass n at onward o (inr e) (still_open m) = by (Memᴰ.cases_cons (rw n.split at m))
          where
            by : (at ≡ p) ⊎ Memᴰ at n.outer → Passed s first ends' onto n.outer at onward
            by (inl q) = absurd (eqb-false at p e q)
            by (inr k) = still_open k
        pass n at onward o (inr e) (ahead r) = by (ahead_of read r)
          where
            by : (at ≡ next) ⊎ Reached s onto at → Passed s first ends' onto n.outer at onward
            by (inl q) = absurd (let wrong : Kind.TheVariants.Closes ≡ Kind.TheVariants.Opens = opener_kind (rw q at o) read in contradiction cc)
            by (inr k) = ahead k

        go : Innermost s ends (code_at s next) next 1 p g.places → Going s ends₀ first ends' onto (get_or ends p 0) (done + 1)
        go n =
            let same : (k : ℕ) → past_ends (k + 2) (code_at s next) ≡ past_ends (k + 1) (code_at s onto) = λ k. ap (past_ends (k + 2)) (code_here s next read) ∙ past_end next k (code_at s onto) in
            let bound : p ≤ onto = omega (arith, n.below, forward.0) in
            let kept : Open s ends' (code_at s onto) p 1 (get_or ends p 0) n.outer = open_in (λ i h. st.others i (λ e. omega arith)) (open_from same n.around) in
            advance f read n.outer (open_later bound kept) (λ at onward r o. pass n at onward o (decided (eqb at p)) (g.passed at onward r o)) (λ b. balanced_end (rw n.split at b)) (λ b. rw n.split (closing b)) st.size

    -- what is stored fits a word, at a place that there is
    stored_open : {ends' : List ℕ} {j : Instr} → instr_at s next ≡ got j onto → ends' ≡ set ends next (innermost % word_limit) → Stored ends ends' next innermost
    stored_open read e =
        let (forward, ends-inside) = never_back instr_takes s next read in
        stored word_limit e (omega (arith, word_small g.chain, g.inside, f.short)) (omega (arith, g.size, f.room))

    stored_close : {ends' : List ℕ} {p : ℕ} → innermost ≡ suc p → instr_at s next ≡ got end onto → ends' ≡ set ends p (onto % word_limit) → Stored ends ends' p onto
    stored_close is read e =
        let (forward, ends-inside) = never_back instr_takes s next read in
        stored word_limit e (omega (arith, f.short)) (omega (arith, word_small g.chain, g.inside, g.size, f.room))

    -- what was noted, by what was read
    turn : {ends' : List ℕ} {noted : Maybe ℕ} {word : ℕ} (j : Instr) → instr_at s next ≡ got j onto → NotedAt ends ends' innermost next onto (kind_of j) noted → noted ≡ Some word → Going s ends₀ first ends' onto word (done + 1)
    turn {ends'} {noted} {word} (op o) read n e =
        let same : word ≡ innermost = noted_one (sym e ∙ n.answer) in
        rw (same, n.memory) (turn_inside read)
    turn {ends'} {noted} {word} (block rs) read n e =
        let same : word ≡ next + 1 = noted_one (sym e ∙ n.answer) in
        let one : next + 1 ≡ suc next = omega arith in
        rw (same, one) (turn_opens read (is_block read) (λ k. past_block_lem next k (code_at s onto) rs) balanced_block opening_block (stored_open read n.memory))
    turn {ends'} {noted} {word} (loop rs) read n e =
        let same : word ≡ next + 1 = noted_one (sym e ∙ n.answer) in
        let one : next + 1 ≡ suc next = omega arith in
        rw (same, one) (turn_opens read (is_loop read) (λ k. past_loop next k (code_at s onto) rs) balanced_loop opening_loop (stored_open read n.memory))
    turn {ends'} {noted} {word} end read n e = go innermost refl n
      where
        go : (w : ℕ) → innermost ≡ w → NotedAt ends ends' w next onto Kind.TheVariants.Closes noted → Going s ends₀ first ends' onto word (done + 1)
        go zero is m = let wrong = m.answer in impossible cc
        go (suc p) is m =
            let same : word ≡ get_or ends p 0 = noted_one (sym e ∙ m.answer) in
            rw same (turn_closes is read (stored_close is read m.memory))

    -- the function's own end: no block is open, and every one was closed
    own_end : instr_at s next ≡ got end onto → innermost ≡ 0 → {answer : Bool} → answer ≡ none_there (instr_at s onto) → Filled s ends₀ ends first answer
    own_end read none {answer} is = record { matching = matching; balanced = balanced; told = told; size = g.size }
      where
        closes : g.places ≡ []
        closes = no-places (rw none at g.chain)

        -- nothing follows
        nothing : answer ≡ true → (n : ℕ) × (place : ℕ) × (instr_at s onto ≡ refused n place)
        nothing e = by (instr_at s onto) refl (sym is ∙ e)
          where
            by : (o : Read Instr) → instr_at s onto ≡ o → none_there o ≡ true → (n : ℕ) × (place : ℕ) × (instr_at s onto ≡ refused n place)
            by (got i next) same h = absurd (false≢true h)
            by (refused n place) same h = (n, place, same)

        matching : answer ≡ true → EndsOf s ends first
        matching e = record { lands = λ {at} {next = onward} r o. by at onward o (g.passed at onward r o) }
          where
            later : (at onward : ℕ) → Opener s at onward → Reached s onto at → Lands s first onward (get_or ends at 0)
            later at onward o here = let (n, place, no_more) = nothing e in absurd (not_refused o no_more)
            later at onward o (further read_there r) = let (n, place, no_more) = nothing e in impossible cc

            by : (at onward : ℕ) → Opener s at onward → Passed s first ends next g.places at onward → Lands s first onward (get_or ends at 0)
            by at onward o (closed lands) = lands
            by at onward o (still_open m) = absurd (Memᴰ.not-nil (rw closes at m))
            by at onward o (ahead r) = on (ahead_of read r)
              where
                on : (at ≡ next) ⊎ Reached s onto at → Lands s first onward (get_or ends at 0)
                on (inl q) = absurd (let wrong : Kind.TheVariants.Closes ≡ Kind.TheVariants.Opens = opener_kind (rw q at o) read in contradiction cc)
                on (inr k) = later at onward o k

        balanced : answer ≡ true → Balanced 0 (code_at s first)
        balanced e =
            let (n, place, no_more) = nothing e in
            g.balanced (rw (closes, code_here s next read, code_refused s onto no_more) last)

        told : Balanced 0 (code_at s first) → answer ≡ true
        told b = is ∙ by (instr_at s onto) refl (balanced_last (rw (closes, code_here s next read) at (g.balances b)))
          where
            by : (o : Read Instr) → instr_at s onto ≡ o → code_at s onto ≡ [] → none_there o ≡ true
            by (got i later) same h = absurd (let wrong = sym h ∙ code_here s onto same in contradiction cc)
            by (refused n place) same h = refl

    finish : {ends' : List ℕ} {noted : Maybe ℕ} (j : Instr) → instr_at s next ≡ got j onto → NotedAt ends ends' innermost next onto (kind_of j) noted → noted ≡ None → {answer : Bool} → answer ≡ none_there (instr_at s onto) → Filled s ends₀ ends' first answer
    finish (op o) read n e is = let wrong = n.answer in impossible cc
    finish (block rs) read n e is = let wrong = n.answer in impossible cc
    finish (loop rs) read n e is = let wrong = n.answer in impossible cc
    finish {ends'} {noted} end read n e {answer} is = go innermost refl n
      where
        go : (w : ℕ) → innermost ≡ w → NotedAt ends ends' w next onto Kind.TheVariants.Closes noted → Filled s ends₀ ends' first answer
        go zero none m = rw m.memory (own_end read none is)
        go (suc p) some m = let wrong = m.answer in impossible cc

  module _ (f : Fillable s ends₀ first) {r : Result (Instruction × ℕ) Refused} (a : r ≡ instruction_is (instr_at s next)) where
    pub going_refused : {no : Refused} → r ≡ Err no → Filled s ends₀ ends first false
    going_refused e = stopped (code_refused s next (instruction_refused (instr_at s next) a e))

    module _ {i : Instruction} {onto : ℕ} (e : r ≡ Ok (i, onto)) where
      pub going_early : next < most_bytes
      going_early =
          let (j, read, same) = instruction_got (instr_at s next) a e in
          let (forward, ends-inside) = never_back instr_takes s next read in
          omega (arith, f.short)

      module _ {k : Kind} (is : KindIs i k) {ends' : List ℕ} {noted : Maybe ℕ} (n : NotedAt ends ends' innermost next onto k noted) where
        noted_as : (j : Instr) → i ≡ instruction_of j → NotedAt ends ends' innermost next onto (kind_of j) noted
        noted_as j same = subst (λ (x : Kind). NotedAt ends ends' innermost next onto x noted) (is.is j same) n

        pub going_turn : {word : ℕ} → noted ≡ Some word → Going s ends₀ first ends' onto word (done + 1)
        going_turn q = let (j, read, same) = instruction_got (instr_at s next) a e in turn f j read (noted_as j same) q

        pub going_last : noted ≡ None → {answer : Bool} → answer ≡ none_there (instr_at s onto) → Filled s ends₀ ends' first answer
        going_last q b = let (j, read, same) = instruction_got (instr_at s next) a e in finish f j read (noted_as j same) q b

pub ruleset fill_exits = (going_first, going_out, going_refused, going_early, going_turn, going_last)
