-- The arithmetic among the bench cases that are to be proved, by computation. Assumes nothing.
use Rattle.std.proofs.Common.{◌≡◌, refl}
use lib.Ieee.{binary32, of_bits}
use Rattle.arith.specs.Root.{root}
use Rattle.arith.specs.Fused.{fma}

pub root-of-two : root (of_bits binary32 0x40000000) ≡ of_bits binary32 0x3fb504f3
unfolding root of_bits
root-of-two = refl

pub root-of-least : root (of_bits binary32 0x00000001) ≡ of_bits binary32 0x1a3504f3
unfolding root of_bits
root-of-least = refl

-- the product is not rounded before the sum
pub fused-once : fma (of_bits binary32 0x3f800001) (of_bits binary32 0x3f800001) (of_bits binary32 0xbf800002) ≡ of_bits binary32 0x28800000
unfolding fma of_bits
fused-once = refl
