-- `raise_six`: each point is raised. Assumes nothing.
use Rattle.std.proofs.Common.{rules, of_calls, arith, ◌≡◌, ◌∙◌, ◌<◌, sym, length, get_or}
use Rattle.std.proofs.lemmas.List.{ext_get_or, get_or-map, length-map}
use Rattle.face.specs.Vec.{off2, off3, upright}
use Rattle.face.proofs.face.raise_six.Goals as goal

pub returns : goal.returns
returns c = let a = c.args in
    let m = c.map.ensures.items in
    let l : length a.cs ≡ 6 = search rules in
    ext_get_or off3 _ _ (m.long ∙ sym l ∙ sym (length-map a.cs (λ p. upright p a.y)))
    (λ i h. let k : i < length a.cs = omega (arith, l, m.long) in
    let p = m.at i off2 off3 (omega (arith, l)) in
    let e : get_or c.map.result i off3 ≡ upright (get_or a.cs i off2) a.y = search (rules, of_calls) in
    e ∙ sym (get_or-map (λ p. upright p a.y) a.cs i off2 off3 k))
