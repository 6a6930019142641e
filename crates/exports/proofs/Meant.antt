-- What a fringe decides that means something, and one that means nothing. Assumes nothing.
use mathlib.Core.Path.{◌≡◌, sym, ap}
use mathlib.Core.Bool.{Bool, true, false, cond}
use Rattle.answer.specs.declared.answer.Refusal.TheVariants.{Shape}
use Rattle.answer.specs.Answers.{Answer}
use Rattle.std.specs.Prelude.{Err}
use Rattle.answer.specs.Answers.{given}
use Rattle.boundary.specs.declared.jobs.CHeightMap.{CHeightMap}
use Rattle.boundary.specs.FromC.{is_fringe}

module _ (job : CHeightMap) where
  pub meant : (x : Answer) → is_fringe job.fringe ≡ true → x ≡ given (is_fringe job.fringe) Shape x
  meant x e = sym (ap (λ (b : Bool). given b Shape x) e)

  pub unmeant : (x : Answer) → is_fringe job.fringe ≡ false → Err Shape ≡ given (is_fringe job.fringe) Shape x
  unmeant x e = sym (ap (λ (b : Bool). given b Shape x) e)

  pub kept : {A : Type 0} (C X : A) → is_fringe job.fringe ≡ true → C ≡ cond (is_fringe job.fringe) C X
  kept C X e = sym (ap (λ (b : Bool). cond b C X) e)

  pub unkept : {A : Type 0} (C X : A) → is_fringe job.fringe ≡ false → X ≡ cond (is_fringe job.fringe) C X
  unkept C X e = sym (ap (λ (b : Bool). cond b C X) e)
