-- `digit_value`: its tests are the definition's. Assumes nothing.
use borrow.Author.Tests.{lt-ltb, le-ltb, le-leb, lt-leb}
use Rattle.patterns.specs.Digits.{digit_value}
use Rattle.patterns.proofs.digit_value.Goals as goal

pub returns-then-byte-lt48 : goal.returns-then-byte-lt48
unfolding digit_value
returns-then-byte-lt48 c = simp (lt-ltb _ _ c.if-byte-lt48.true)

pub returns-then-byte-le57 : goal.returns-then-byte-le57
unfolding digit_value
returns-then-byte-le57 c = simp (le-ltb _ _ c.if-byte-lt48.false, le-leb _ _ c.if-byte-le57.true)

pub returns-then-byte-lt97 : goal.returns-then-byte-lt97
unfolding digit_value
returns-then-byte-lt97 c = simp (le-ltb _ _ c.if-byte-lt48.false, lt-leb _ _ c.if-byte-le57.false, lt-ltb _ _ c.if-byte-lt97.true)

pub returns-then-byte-le102 : goal.returns-then-byte-le102
unfolding digit_value
returns-then-byte-le102 c = simp (le-ltb _ _ c.if-byte-lt48.false, lt-leb _ _ c.if-byte-le57.false, le-ltb _ _ c.if-byte-lt97.false, le-leb _ _ c.if-byte-le102.true)

pub returns : goal.returns
unfolding digit_value
returns c = simp (le-ltb _ _ c.if-byte-lt48.false, lt-leb _ _ c.if-byte-le57.false, le-ltb _ _ c.if-byte-lt97.false, lt-leb _ _ c.if-byte-le102.false)
