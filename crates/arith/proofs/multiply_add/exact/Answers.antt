-- `exact`: three finite values by their patterns. Assumes nothing.
use Rattle.std.proofs.Common.{◌*◌, ◌^◌, Bool, T, sym, ap, ◌∙◌, subst, ap₂}
use lib.Ieee.{binary32, sum, unlike}
use Rattle.arith.proofs.Values.{no_nan, sign, exactly}
use Rattle.arith.proofs.multiply_add.exact.Goals as goal

pub float_to_bits-x : goal.float_to_bits-x
float_to_bits-x c = no_nan c.args.a c.requires.0

pub float_to_bits-y : goal.float_to_bits-y
float_to_bits-y c = no_nan c.args.b c.requires.1

pub float_to_bits-z : goal.float_to_bits-z
float_to_bits-z c = no_nan c.args.c c.requires.2

pub returns : goal.returns
returns c = let a = c.args in
    let f = c.factors.result in
    let g = c.addend.result in
    let p = f.sig * 2 ^ f.exp in
    let z = g.sig * 2 ^ g.exp in
    c.finish.ensures
    ∙ sym c.combine.ensures.value
    ∙ ap₂ (λ (u v : Bool). sum binary32 (unlike u v) p c.negative-3.result z (2 ^ 426)) c.negative.ensures c.negative-2.ensures
    ∙ ap (λ (u : Bool). sum binary32 (unlike (sign a.a) (sign a.b)) p u z (2 ^ 426)) c.negative-3.ensures
    ∙ exactly a.a a.b a.c (subst T (sym c.well_formed.0.1) tt) (subst T (sym c.well_formed.1.0.1) tt) (subst T (sym c.well_formed.1.1.0.1) tt) c.requires.0 c.requires.1 c.requires.2 p z c.factors.ensures.1 c.addend.ensures.1
