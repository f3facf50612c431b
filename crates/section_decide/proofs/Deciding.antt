-- The ways out of the verdict: the first pass refuses, or the second decides over the same types, with their ranges.
use Prim.Native.Nat.{ℕ, ◌-◌}
use native.Mathlib.Omega.{arith}
use mathlib.Core.Path.{◌≡◌, refl, sym, ◌∙◌, ap}
use mathlib.Core.Bool.{true, false}
use mathlib.Core.List.{List}
use Rattle.std.specs.Prelude.{Result, Ok, Err}
use Rattle.scope.specs.declared.Rejected.{Rejected}
use Rattle.scope.specs.Judging.{accepted, links_fault, scan}
use Rattle.scope.specs.Syntax.{Types}
use Rattle.scope.specs.declared.Place.{Place}
use Rattle.scope.proofs.Impossible.{impossible}
use Rattle.type_table.specs.View.{view}
use Rattle.type_span.proofs.Stores.{beside_view}
use Rattle.type_numbering.specs.Ranges.{Numberable, Numbered}
use Rattle.type_hierarchy.specs.Ranged.{Ranged}
use Rattle.type_numbering.proofs.Walked.{beside_numbered}
use Rattle.type_chain.specs.Depths.{Measurable, Measured}
use Rattle.section_judge.specs.Verdict.{ruled_is, fault_of, judge_from}
use Rattle.section_judge.specs.Ready.{Linkable}
use Rattle.section_judge.proofs.Scanning.{ruled_accepted, links_refused, links_accepted}
use Rattle.section_decide.specs.Deciding.{Decidable, Deep, Decided}
use Rattle.section_decide.proofs.Linking.{passed_numberable, passed_ranged}

module _ {first n : ℕ} (codes : List ℕ) {rows : List ℕ} (deep : Deep first n codes rows) {l : Result ℕ Rejected} (a : l ≡ ruled_is (scan (fault_of true (view rows codes)) first (n - first))) where
  pub first_refuses : {no : Rejected} → l ≡ Err no → Decided first n codes rows rows (Err no)
  first_refuses q =
      record {
        answer = links_refused (view rows codes) first n a q;
        size = refl;
        numbered = λ m f. impossible cc;
        ranged = λ m f. impossible cc;
      }

  module _ {m : ℕ} (q : l ≡ Ok m) where
    passed : scan (links_fault (view rows codes)) first (n - first) ≡ accepted m
    unfolding fault_of
    passed = ruled_accepted (scan (fault_of true (view rows codes)) first (n - first)) a q

    pub links_numberable : Numberable n codes rows
    links_numberable = passed_numberable codes deep.ok passed

    module _ {rows₁ : List ℕ} (t : Numbered n codes rows rows₁) where
      pub links_ranged : Ranged rows₁ codes
      links_ranged = passed_ranged codes deep.ok passed t

      pub second_decides : {r : Result ℕ Rejected} → r ≡ ruled_is (scan (fault_of false (view rows₁ codes)) first (n - first)) → Decided first n codes rows rows₁ r
      second_decides {r} e =
          let over : r ≡ ruled_is (scan (fault_of false (view rows codes)) first (n - first)) = e ∙ ap (λ (ts : Types). ruled_is (scan (fault_of false ts) first (n - first))) (beside_view t.beside codes) in
          record {
            answer = links_accepted (view rows codes) first n a q over;
            size = t.beside.size;
            numbered = λ m f. t;
            ranged = λ m f. links_ranged;
          }

pub links_asked : {first n : ℕ} {codes rows : List ℕ} → Deep first n codes rows → Linkable first n rows codes
links_asked d = record { earlier = d.ok.earlier; depths = d.depths }

pub ruleset decide_exits = (links_asked, first_refuses, links_numberable, links_ranged, second_decides)

-- depths are no part of what is judged

pub decide_room : {first n : ℕ} {codes rows : List ℕ} → Decidable first n codes rows → Measurable n rows
decide_room ok = record { room = ok.room; count = ok.count }

module _ {first n : ℕ} (codes : List ℕ) {rows : List ℕ} (ok : Decidable first n codes rows) {rows₁ : List ℕ} (d : Measured n codes rows rows₁) where
  same : view rows₁ codes ≡ view rows codes
  same = beside_view d.beside codes

  pub measured_deep : Deep first n codes rows₁
  measured_deep =
      let long = d.beside.size in
      let room = ok.room in
      record {
        ok = record {
          room = omega arith;
          count = ok.count;
          earlier = λ x less. rw same (ok.earlier x less);
          past = λ x k late. d.beside.past x k late ∙ ok.past x k late;
        };
        depths = d.depths;
      }

  pub measured_decided : {rows₂ : List ℕ} {r : Result ℕ Rejected} → Decided first n codes rows₁ rows₂ r → Decided first n codes rows rows₂ r
  measured_decided t =
      record {
        answer = t.answer ∙ ap (λ (ts : Types). ruled_is (judge_from first ts n)) same;
        size = t.size ∙ d.beside.size;
        numbered = λ m e. beside_numbered d.beside (t.numbered m e);
        ranged = λ m e. t.ranged m e;
      }

pub ruleset measured_exits = (decide_room, measured_deep, measured_decided)
