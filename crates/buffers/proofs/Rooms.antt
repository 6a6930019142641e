-- What the one test of room says. Assumes nothing.
use mathlib.Core.Path.{◌≡◌, refl, sym}
use mathlib.Core.Bool.{Bool, true, false, ◌&&◌}
use Prim.Native.Nat.{ℕ, ◌+◌, ◌*◌, ◌<◌, ◌≤◌}
use native.Mathlib.Omega.{arith}
use borrow.Author.Tests.{le-leb, lt-leb, leb-true}
use lib.Dec.{leb}
use Rattle.face.specs.declared.triangle.Counts.{Counts}
use Rattle.face.specs.declared.triangle.Triangle.{Triangle}
use Rattle.face.proofs.Laws.{Below}
use Rattle.buffers.specs.Laying.{reaches_floats, reaches}

pub both : {A : Type 0} (x y : Bool) → x && y ≡ true → (x ≡ true → y ≡ true → A) → A
both true y e k = k refl e
both false y e k = let p : false ≡ true = e in let z : ◌≡◌ {A = ℕ} 0 1 = cc in absurd (omega arith)

neither : (x : Bool) → x && false ≡ false
neither true = refl
neither false = refl

module _ (c : Counts) (v n t i : ℕ) where
  pub past-limit : 65536 < c.vertices.0 → false ≡ reaches c v n t i
  unfolding reaches
  past-limit h = rw (lt-leb c.vertices.0 65536 h)

  pub past-indices : i < c.indices.0 → false ≡ reaches c v n t i
  unfolding reaches
  past-indices h = rw (lt-leb c.indices.0 i h) (sym (neither (leb c.vertices.0 65536)))

  pub floats-decide : c.vertices.0 ≤ 65536 → c.indices.0 ≤ i → reaches_floats c.vertices.0 v n t ≡ reaches c v n t i
  unfolding reaches
  floats-decide h k = rw (le-leb c.vertices.0 65536 h, le-leb c.indices.0 i k)

  -- the limit, and the numbers that each buffer has room for
  pub record Room : Type 0 where
    pub limit : c.vertices.0 ≤ 65536
    pub vertices : 3 * c.vertices.0 ≤ v
    pub normals : 3 * c.vertices.0 ≤ n
    pub uvs : 2 * c.vertices.0 ≤ t
    pub indices : c.indices.0 ≤ i

  pub room-is : reaches c v n t i ≡ true → Room
  unfolding reaches
  room-is e =
      both _ _ e (λ l e₁. both _ _ e₁ (λ x e₂. both _ _ e₂ (λ p e₃. both _ _ e₃ (λ q r.
      record { limit = leb-true _ _ l; vertices = leb-true _ _ p; normals = leb-true _ _ q; uvs = leb-true _ _ r; indices = leb-true _ _ x }))))

  pub room-so : Room → reaches c v n t i ≡ true
  unfolding reaches
  room-so r =
      rw (
        le-leb c.vertices.0 65536 r.limit,
        le-leb c.indices.0 i r.indices,
        le-leb (3 * c.vertices.0) v r.vertices,
        le-leb (3 * c.vertices.0) n r.normals,
        le-leb (2 * c.vertices.0) t r.uvs,
      )

-- a triangle that names vertices of its own mesh, after b others, within 16 bits
pub numbered : (b m : ℕ) (t u : Triangle) → t ≡ u → Below m u → b + m ≤ 65536 → (t.0.0 + b ≤ 65535) × (t.1.0 + b ≤ 65535) × (t.2.0 + b ≤ 65535)
numbered b m t u e h r = rw e (omega (arith, h.0), omega (arith, h.1), omega (arith, h.2))
