-- What is told is told of the wall and of the face that are asked for: where the answer is done, the cell, the side and the
-- number are there, so that what was read for one that is not has no part in it. Assumes nothing.
use mathlib.Core.Path.{◌≡◌, refl, ap, ap₂, ◌∙◌}
use mathlib.Core.Bool.{cond}
use Prim.Native.Nat.{ℕ}
use borrow.Author.Tests.{lt-ltb}
use lib.Dec.{ltb}
use Rattle.face.specs.declared.triangle.Counts.{Counts}
use Rattle.answer.specs.declared.answer.Refusal.{Refusal}
use Rattle.answer.specs.Answers.{Answer}
use Rattle.std.specs.Prelude.{Ok, Err}
use Rattle.answer.specs.Answers.{limited, named}
use Rattle.answer.proofs.Laws.{named-done}
use Rattle.heightmap.specs.declared.Wall.{Wall}
use Rattle.heightmap.specs.declared.Name.TheVariants.{Side}
use Rattle.heightmap.specs.declared.HeightMap.{HeightMap}
use Rattle.heightmap.specs.Grid.{cells_in, wall}
use Rattle.heightmap.specs.HeightMap.{Lists}
use Rattle.heightmap.specs.Tests.{planned}
use Rattle.heightmap.specs.Names.{number_of}
use Rattle.heightmap_plan.specs.declared.tally.Tally.{Tally}
use Rattle.heightmap_plan.specs.Walking.{tally_of}
use Rattle.heightmap_plan.specs.Finding.{side_number}
use Rattle.heightmap_plan.proofs.Deciding.{counted-first}
use Rattle.heightmap_plan.proofs.Telling.{planned-few}
use Rattle.heightmap_why.specs.declared.Reason.{Reason}
use Rattle.heightmap_why.specs.Why.{reason_by, reason_of, side_named, side_answer, side_tested, why_by, why_told}

-- what stands beside a refusal does not matter, where it is not told
same-told : {A B : Type 0} (by : Answer → A → B) → ((e : Refusal) (x y : A) → by (Err e) x ≡ by (Err e) y)
    → (a : Answer) (x y : A) → ((c : Counts) → a ≡ Ok c → x ≡ y) → by a x ≡ by a y
same-told by r (Err e) x y h = r e x y
same-told by r (Ok c) x y h = ap (by (Ok c)) (h c refl)

module _ (job : HeightMap) (ls : Lists) where
  -- ---- why
  module _ (k side : ℕ) where
    counted : (t : Tally) → t ≡ tally_of job ls → side_tested job ls t.counts k side ≡ side_answer job ls k side
    counted t e = ap (λ (x : Answer). side_named ls x k side) (counted-first job ls limited t e)

    reason-so : (d number : ℕ) (w : Wall) (c : Counts) → d ≡ cond (ltb side 6) side 0 → number ≡ side_number job ls.grid k d → w ≡ wall job ls.grid k d
        → side_answer job ls k side ≡ Ok c → reason_by w number ≡ reason_of job ls.grid k side
    reason-so d number w c e p q h =
        let s = named-done (named (planned job ls) k (cells_in ls.grid.cells)) c side 6 h in
        let n = named-done (planned job ls) c k (cells_in ls.grid.cells) s.0 in
        let same : d ≡ side = e ∙ rw (lt-ltb side 6 s.1) in
        let there : side_number job ls.grid k d ≡ number_of job ls.grid (Side k d) = rw (planned-few job ls c n.0, lt-ltb k (cells_in ls.grid.cells) n.1) in
        ap₂ reason_by q (p ∙ there) ∙ ap (reason_of job ls.grid k) same

    pub why-so : (d number : ℕ) (w : Wall) (t : Tally) (a : Answer) (r : Reason) → d ≡ cond (ltb side 6) side 0 → number ≡ side_number job ls.grid k d → w ≡ wall job ls.grid k d
        → t ≡ tally_of job ls → a ≡ side_tested job ls t.counts k side → r ≡ reason_by w number → why_by a r ≡ why_told job ls k side
    why-so d number w t a r e p q f b z =
        ap₂ why_by (b ∙ counted t f) z
        ∙ same-told why_by (λ e x y. refl) (side_answer job ls k side) (reason_by w number) (reason_of job ls.grid k side) (λ c. reason-so d number w c e p q)
