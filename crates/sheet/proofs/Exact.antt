-- `reading` accepts exactly the texts of lawful sheets. Assumes nothing.
use mathlib.Core.Path.{◌≡◌, refl, sym, ap, subst, subst₂, ◌∙◌}
use mathlib.Core.Bool.{Bool, true, false, ◌||◌}
use mathlib.Core.List.{List, [], ◌∷◌, ◌++◌, append_assoc, append-nil}
use Prim.Native.Nat.{ℕ, zero, suc, ◌+◌, ◌*◌, ◌≤◌}
use native.Mathlib.Nat.{mul-le-mul_left}
use native.Mathlib.Omega.{arith}
use borrow.Author.Tests.{le-leb, eq-eqb, eqb-true, leb-true}
use lib.Dec.{leb, eqb}
use lib.ListN.{length, take, drop, replicate, length-append, length-drop, length-replicate, take-append-drop}
use lib.Seq.{append_snoc, length-take-le, take_at, drop_at}
use Rattle.std.specs.Prelude.{Some, None}
use Rattle.sheet.specs.declared.reading.Sheet.{Sheet}
use Rattle.sheet.specs.declared.reading.Head.{Head}
use Rattle.sheet.specs.declared.reading_lines.Block.{Block}
use Rattle.sheet.specs.Digits.{newline, space, hex_digits, digits, decimal, gap, count_text, heading}
use Rattle.sheet.specs.Sheets.{column_word, sides_word, caps_word, numbers_text, block_text, head_text, cap_lines, sheet_text, InU32, AllInU32, FirstUsed, Lawful}
use Rattle.sheet.specs.Readers.{Taken, taken, none, next, only_if, mark_of, word_of, hex_from, hex_of, decimal_of, count_of, section_of, numbers_from, numbers_of, block_of, head_of, sheet_with, are_caps, sheet_of, reading, whole}
use Rattle.sheet.proofs.Formats.{not_none, only-if-inv, next-inv, taken-value, taken-rest, hex-written, hex-read, decimal-written, decimal-read}

abbrev Holds : Bool → Type 0
Holds true = Unit
Holds false = ⊥

no_truth : false ≡ true → ⊥
no_truth e = subst Holds (sym e) tt

-- ---- bytes and words
mark-written : (b : ℕ) (t : List ℕ) → mark_of b (b ∷ t) ≡ taken tt t
unfolding mark_of
mark-written b t = rw (eq-eqb b b refl)

mark-read : (b : ℕ) (s : List ℕ) (u : Unit) (r : List ℕ) → mark_of b s ≡ taken u r → s ≡ b ∷ r
unfolding mark_of
mark-read b [] u r e = absurd (not_none e)
mark-read b (a ∷ s) u r e =
    let g = only-if-inv (eqb a b) (taken tt s) u r e in
    rw (eqb-true a b g.0, taken-rest g.1)

word-written : (ws t : List ℕ) → word_of ws (ws ++ t) ≡ taken tt t
unfolding word_of
word-written [] t = refl
word-written (w ∷ ws) t = rw (mark-written w (ws ++ t)) (word-written ws t)

word_read : (ws s : List ℕ) (u : Unit) (r : List ℕ) → word_of ws s ≡ taken u r → s ≡ ws ++ r
unfolding word_of
word_read [] s u r e = taken-rest e
word_read (w ∷ ws) s u r e =
    let g = next-inv (mark_of w s) (λ _ a. word_of ws a) u r e in
    mark-read w s g.0 g.1 g.2 ∙ ap (λ (l : List ℕ). w ∷ l) (word_read ws g.1 u r g.3)

-- ---- numbers and counts
pub hex-exact : (n : ℕ) (t : List ℕ) → InU32 n → hex_of (hex_digits n ++ t) ≡ taken n t
unfolding hex_from
hex-exact n t f = hex-written 8 0 n t f

pub hex-sound : (s : List ℕ) (n : ℕ) (r : List ℕ) → hex_of s ≡ taken n r → InU32 n × (s ≡ hex_digits n ++ r)
unfolding digits
hex-sound s n r e = hex-read 8 0 0 s n r (omega arith) e

count-exact : (n : ℕ) (t : List ℕ) → InU32 n → count_of (count_text n ++ t) ≡ taken n t
unfolding count_of mark_of
count-exact n t f = rw (append_assoc (decimal n) (newline ∷ []) t, decimal-written n t f)

count-sound : (s : List ℕ) (n : ℕ) (r : List ℕ) → count_of s ≡ taken n r → InU32 n × (s ≡ count_text n ++ r)
unfolding count_of
count-sound s n r e =
    let g = next-inv (decimal_of s) (λ m a. next (mark_of newline a) (λ _ b. taken m b)) n r e in
    let h = next-inv (mark_of newline g.1) (λ _ b. taken g.0 b) n r g.3 in
    let d = decimal-read s g.0 g.1 g.2 in
    let m = mark-read newline g.1 h.0 h.1 h.2 in
    let v = taken-value h.3 in
    let q = taken-rest h.3 in
    let w : s ≡ count_text g.0 ++ h.1 = d.1 ∙ (ap (λ (l : List ℕ). decimal g.0 ++ l) m ∙ sym (append_assoc (decimal g.0) (newline ∷ []) h.1)) in
    (subst InU32 v d.0, w ∙ (ap (λ (k : ℕ). count_text k ++ h.1) v ∙ ap (λ (l : List ℕ). count_text n ++ l) q))

section-exact : (name : List ℕ) (n : ℕ) (t : List ℕ) → InU32 n → section_of name (heading name n ++ t) ≡ taken n t
unfolding section_of
section-exact name n t f = rw (append_assoc name (count_text n) t, word-written name (count_text n ++ t)) (count-exact n t f)

section-sound : (name s : List ℕ) (n : ℕ) (r : List ℕ) → section_of name s ≡ taken n r → InU32 n × (s ≡ heading name n ++ r)
unfolding section_of
section-sound name s n r e =
    let g = next-inv (word_of name s) (λ _ a. count_of a) n r e in
    let c = count-sound g.1 n r g.3 in
    (c.0, word_read name s g.0 g.1 g.2 ∙ (ap (λ (l : List ℕ). name ++ l) c.1 ∙ sym (append_assoc name (count_text n) r)))

-- ---- lists of numbers
numbers-exact : (width : ℕ) (xs vs t : List ℕ) → AllInU32 xs → numbers_from width (length xs) vs (numbers_text width (length vs) xs ++ t) ≡ taken (vs ++ xs) t
unfolding numbers_from numbers_text
numbers-exact width [] vs t f = rw (append-nil vs)
numbers-exact width (x ∷ xs) vs t f =
    let i = numbers-exact width xs (vs ++ (x ∷ [])) t f.1 in
    let l : length (vs ++ (x ∷ [])) ≡ length vs + 1 = length-append vs (x ∷ []) in
    rw (append_assoc (hex_digits x) (gap width (length vs) ∷ numbers_text width (length vs + 1) xs) t, hex-exact x (gap width (length vs) ∷ (numbers_text width (length vs + 1) xs ++ t)) f.0, mark-written (gap width (length vs)) (numbers_text width (length vs + 1) xs ++ t))
    (rw (l, append_snoc vs x xs) at i)

numbers-sound : (width j : ℕ) (vs s all r : List ℕ) → numbers_from width j vs s ≡ taken all r → (xs : List ℕ) × (all ≡ vs ++ xs) × (length xs ≡ j) × AllInU32 xs × (s ≡ numbers_text width (length vs) xs ++ r)
unfolding numbers_from numbers_text
numbers-sound width zero vs s all r e = ([], sym (taken-value e) ∙ sym (append-nil vs), refl, tt, taken-rest e)
numbers-sound width (suc j) vs s all r e =
    let sep : ℕ = gap width (length vs) in
    let g = next-inv (hex_of s) (λ x a. next (mark_of (gap width (length vs)) a) (λ _ b. numbers_from width j (vs ++ (x ∷ [])) b)) all r e in
    let h = next-inv (mark_of sep g.1) (λ _ b. numbers_from width j (vs ++ (g.0 ∷ [])) b) all r g.3 in
    let i = numbers-sound width j (vs ++ (g.0 ∷ [])) h.1 all r h.3 in
    let l : length (vs ++ (g.0 ∷ [])) ≡ length vs + 1 = length-append vs (g.0 ∷ []) in
    let x = hex-sound s g.0 g.1 g.2 in
    let m = mark-read sep g.1 h.0 h.1 h.2 in
    let k : h.1 ≡ numbers_text width (length vs + 1) i.0 ++ r = i.4 ∙ ap (λ (y : ℕ). numbers_text width y i.0 ++ r) l in (
      g.0 ∷ i.0,
      i.1 ∙ append_snoc vs g.0 i.0,
      ap suc i.2,
      (x.0, i.3),
      x.1 ∙ (ap (λ (y : List ℕ). hex_digits g.0 ++ y) (m ∙ ap (λ (y : List ℕ). sep ∷ y) k) ∙ sym (append_assoc (hex_digits g.0) (sep ∷ numbers_text width (length vs + 1) i.0) r)),
    )

-- ---- a section with its lines
first-used : (places m : ℕ) (xs : List ℕ) → length xs ≡ m → m ≤ places → AllInU32 xs → FirstUsed places m (xs ++ drop m (replicate places 0))
first-used places m xs l r f =
    record {
      long = simp (length-append, length-drop, length-replicate) (omega arith);
      small = rw (take_at xs (drop m (replicate places 0)) m l) f;
      unused = drop_at xs (drop m (replicate places 0)) m l;
    }

module _ (name : List ℕ) (width places : ℕ) (room : width * 6 ≤ places) where
  abbrev Listed : ℕ → List ℕ → List ℕ → List ℕ → Type 0
  Listed m a c ys = FirstUsed places m ys × (a ≡ numbers_text width 0 (take m ys) ++ c)

  list-sound : (n : ℕ) (a ys c : List ℕ) → n ≤ 6 → numbers_of width (width * n) (replicate places 0) a ≡ taken ys c → Listed (width * n) a c ys
  unfolding numbers_of
  list-sound n a ys c h e =
      let m : ℕ = width * n in
      let k = next-inv (numbers_from width m [] a) (λ xs b. taken (xs ++ drop m (replicate places 0)) b) ys c e in
      let i = numbers-sound width m [] a k.0 k.1 k.2 in
      let w : width * n ≤ width * 6 = mul-le-mul_left width h in
      let t : take m (i.0 ++ drop m (replicate places 0)) ≡ i.0 = take_at i.0 (drop m (replicate places 0)) m i.2 in
      let q : a ≡ numbers_text width 0 i.0 ++ c = i.4 ∙ ap (λ (l : List ℕ). numbers_text width 0 i.0 ++ l) (taken-rest k.3) in
      let y : i.0 ++ drop m (replicate places 0) ≡ ys = ap (λ (l : List ℕ). l ++ drop m (replicate places 0)) (sym i.1) ∙ taken-value k.3 in
      subst (Listed m a c) y (first-used places m i.0 i.2 (omega arith) i.3, q ∙ ap (λ (l : List ℕ). numbers_text width 0 l ++ c) (sym t))

  abbrev Blocked : List ℕ → Block places → List ℕ → Type 0
  Blocked s b r = (b.lines ≤ 6) × FirstUsed places (width * b.lines) b.numbers × (s ≡ block_text name width b.lines b.numbers ++ r)

  block-sound : (s : List ℕ) (b : Block places) (r : List ℕ) → block_of name width places s ≡ taken b r → Blocked s b r
  unfolding block_of
  block-sound s b r e =
      let g = next-inv (section_of name s) (λ n a. only_if (leb n 6) (next (numbers_of width (width * n) (replicate places 0) a) (λ xs c. taken (record { lines = n; numbers = xs }) c))) b r e in
      let n : ℕ = g.0 in
      let v = only-if-inv (leb n 6) (next (numbers_of width (width * n) (replicate places 0) g.1) (λ xs c. taken (record { lines = n; numbers = xs }) c)) b r g.3 in
      let h = next-inv (numbers_of width (width * n) (replicate places 0) g.1) (λ xs c. taken (record { lines = n; numbers = xs }) c) b r v.1 in
      let k : n ≤ 6 = leb-true n 6 v.0 in
      let l = list-sound n g.1 h.0 h.1 k h.2 in
      let p = section-sound name s n g.1 g.2 in
      let q : s ≡ block_text name width n h.0 ++ h.1 = p.1 ∙ (ap (λ (y : List ℕ). heading name n ++ y) l.1 ∙ sym (append_assoc (heading name n) (numbers_text width 0 (take (width * n) h.0)) h.1)) in
      subst₂ (Blocked s) (taken-value h.3) (taken-rest h.3) (k, l.0, q)

  block-exact : (n : ℕ) (xs t : List ℕ) → n ≤ 6 → FirstUsed places (width * n) xs → block_of name width places (block_text name width n xs ++ t) ≡ taken (record { lines = n; numbers = xs }) t
  unfolding block_of numbers_of
  block-exact n xs t h f =
      let w : width * n ≤ width * 6 = mul-le-mul_left width h in
      let l : length (take (width * n) xs) ≡ width * n = length-take-le (width * n) xs (omega (arith, f.long)) in
      let i : numbers_from width (width * n) [] (numbers_text width 0 (take (width * n) xs) ++ t) ≡ taken (take (width * n) xs) t = rw l at (numbers-exact width (take (width * n) xs) [] t f.small) in
      rw (append_assoc (heading name n) (numbers_text width 0 (take (width * n) xs)) t, section-exact name n (numbers_text width 0 (take (width * n) xs) ++ t) (omega arith), le-leb n 6 h, i, sym f.unused, take-append-drop (width * n) xs)

-- ---- the column's lines
abbrev Headed : List ℕ → Head → List ℕ → Type 0
Headed s h r = InU32 h.height × InU32 h.subdivisions × (s ≡ head_text h.height h.subdivisions ++ r)

abbrev after_space : ℕ → List ℕ → Taken Head
after_space h c = next (count_of c) (λ d e. taken (record { height = h; subdivisions = d }) e)

abbrev after_column : List ℕ → Taken Head
after_column a = next (hex_of a) (λ h b. next (mark_of space b) (λ _ c. after_space h c))

abbrev after_name : ℕ → List ℕ → Taken Head
after_name n a = only_if (eqb n 1) (after_column a)

head-exact : (h d : ℕ) (t : List ℕ) → InU32 h → InU32 d → head_of (head_text h d ++ t) ≡ taken (record { height = h; subdivisions = d }) t
unfolding head_of
head-exact h d t f g =
    let rest : List ℕ = count_text d ++ t in
    let p = append_assoc (heading column_word 1) (hex_digits h ++ (space ∷ count_text d)) t in
    let q = append_assoc (hex_digits h) (space ∷ count_text d) t in
    ap head_of p
    ∙ (ap (λ (z : Taken ℕ). next z after_name) (section-exact column_word 1 ((hex_digits h ++ (space ∷ count_text d)) ++ t) (omega arith))
    ∙ (ap after_column q
    ∙ (ap (λ (z : Taken ℕ). next z (λ k b. next (mark_of space b) (λ _ c. after_space k c))) (hex-exact h (space ∷ rest) f)
    ∙ (ap (λ (z : Taken Unit). next z (λ _ c. after_space h c)) (mark-written space rest)
    ∙ ap (λ (z : Taken ℕ). next z (λ k e. taken (record { height = h; subdivisions = k }) e)) (count-exact d t g)))))

head-sound : (s : List ℕ) (h : Head) (r : List ℕ) → head_of s ≡ taken h r → Headed s h r
unfolding head_of
head-sound s h r e =
    let a = next-inv (section_of column_word s) after_name h r e in
    let v = only-if-inv (eqb a.0 1) (after_column a.1) h r a.3 in
    let b = next-inv (hex_of a.1) (λ k b. next (mark_of space b) (λ _ c. after_space k c)) h r v.1 in
    let c = next-inv (mark_of space b.1) (λ _ c. after_space b.0 c) h r b.3 in
    let d = next-inv (count_of c.1) (λ k e. taken (record { height = b.0; subdivisions = k }) e) h r c.3 in
    let one : a.0 ≡ 1 = eqb-true a.0 1 v.0 in
    let p : s ≡ heading column_word 1 ++ a.1 = (section-sound column_word s a.0 a.1 a.2).1 ∙ ap (λ (n : ℕ). heading column_word n ++ a.1) one in
    let q = hex-sound a.1 b.0 b.1 b.2 in
    let m = mark-read space b.1 c.0 c.1 c.2 in
    let k = count-sound c.1 d.0 d.1 d.2 in
    let tail : a.1 ≡ (hex_digits b.0 ++ (space ∷ count_text d.0)) ++ d.1 = q.1 ∙ (ap (λ (l : List ℕ). hex_digits b.0 ++ l) (m ∙ ap (λ (l : List ℕ). space ∷ l) k.1) ∙ sym (append_assoc (hex_digits b.0) (space ∷ count_text d.0) d.1)) in
    let w : s ≡ head_text b.0 d.0 ++ d.1 = p ∙ (ap (λ (l : List ℕ). heading column_word 1 ++ l) tail ∙ sym (append_assoc (heading column_word 1) (hex_digits b.0 ++ (space ∷ count_text d.0)) d.1)) in
    subst₂ (Headed s) (taken-value d.3) (taken-rest d.3) (q.0, k.0, w)

-- ---- the sheet
caps-back : (b : Bool) → eqb (cap_lines b) 6 ≡ b
caps-back true = refl
caps-back false = refl

caps-allowed : (b : Bool) → are_caps (cap_lines b) ≡ true
caps-allowed true = refl
caps-allowed false = refl

caps-most : (b : Bool) → cap_lines b ≤ 6
caps-most true = omega arith
caps-most false = omega arith

caps-lines : (n : ℕ) → are_caps n ≡ true → cap_lines (eqb n 6) ≡ n
caps-lines n e = go (eqb n 6) refl (eqb n 0) refl e
  where
    go : (x : Bool) → eqb n 6 ≡ x → (y : Bool) → eqb n 0 ≡ y → y || x ≡ true → cap_lines x ≡ n
    go true p y q h = sym (eqb-true n 6 p)
    go false p true q h = sym (eqb-true n 0 q)
    go false p false q h = absurd (no_truth h)

abbrev after_sides : Head → Block 24 → List ℕ → Taken Sheet
after_sides h sides b = next (block_of caps_word 2 12 b) (λ caps c. only_if (are_caps caps.lines) (taken (sheet_with h sides caps) c))

abbrev after_head : Head → List ℕ → Taken Sheet
after_head h a = next (block_of sides_word 4 24 a) (λ sides b. after_sides h sides b)

sheet-exact : (s : Sheet) (t : List ℕ) → Lawful s → sheet_of (sheet_text s ++ t) ≡ taken s t
unfolding sheet_of
sheet-exact s t l =
    let n : ℕ = cap_lines s.caps in
    let h : Head = record { height = s.height; subdivisions = s.subdivisions } in
    let sides : Block 24 = record { lines = s.sides; numbers = s.pairs } in
    let caps : Block 12 = record { lines = n; numbers = s.corners } in
    let a : List ℕ = head_text s.height s.subdivisions in
    let b : List ℕ = block_text sides_word 4 s.sides s.pairs in
    let c : List ℕ = block_text caps_word 2 n s.corners in
    ap sheet_of (append_assoc a (b ++ c) t)
    ∙ (ap (λ (z : Taken Head). next z after_head) (head-exact s.height s.subdivisions ((b ++ c) ++ t) l.height l.subdivisions)
    ∙ (ap (after_head h) (append_assoc b c t)
    ∙ (ap (λ (z : Taken (Block 24)). next z (λ x y. after_sides h x y)) (block-exact sides_word 4 24 (omega arith) s.sides s.pairs (c ++ t) l.sides l.pairs)
    ∙ (ap (λ (z : Taken (Block 12)). next z (λ x y. only_if (are_caps x.lines) (taken (sheet_with h sides x) y))) (block-exact caps_word 2 12 (omega arith) n s.corners t (caps-most s.caps) l.corners)
    ∙ rw (caps-allowed s.caps, caps-back s.caps)))))

abbrev Sheeted : List ℕ → Sheet → List ℕ → Type 0
Sheeted s b r = Lawful b × (s ≡ sheet_text b ++ r)

sheet-sound : (s : List ℕ) (b : Sheet) (r : List ℕ) → sheet_of s ≡ taken b r → Sheeted s b r
unfolding sheet_of
sheet-sound s b r e =
    let g = next-inv (head_of s) after_head b r e in
    let h : Head = g.0 in
    let p = next-inv (block_of sides_word 4 24 g.1) (λ x y. after_sides h x y) b r g.3 in
    let sides : Block 24 = p.0 in
    let q = next-inv (block_of caps_word 2 12 p.1) (λ x y. only_if (are_caps x.lines) (taken (sheet_with h sides x) y)) b r p.3 in
    let caps : Block 12 = q.0 in
    let v = only-if-inv (are_caps caps.lines) (taken (sheet_with h sides caps) q.1) b r q.3 in
    let x = head-sound s h g.1 g.2 in
    let y = block-sound sides_word 4 24 (omega arith) g.1 sides p.1 p.2 in
    let z = block-sound caps_word 2 12 (omega arith) p.1 caps q.1 q.2 in
    let k = caps-lines caps.lines v.0 in
    let a : List ℕ = head_text h.height h.subdivisions in
    let m : List ℕ = block_text sides_word 4 sides.lines sides.numbers in
    let c : ℕ → List ℕ = λ n. block_text caps_word 2 n caps.numbers in
    let w : s ≡ sheet_text (sheet_with h sides caps) ++ q.1 =
    x.2
    ∙ (ap (λ (l : List ℕ). a ++ l) (y.2 ∙ (ap (λ (l : List ℕ). m ++ l) (z.2 ∙ ap (λ (n : ℕ). c n ++ q.1) (sym k)) ∙ sym (append_assoc m (c (cap_lines (eqb caps.lines 6))) q.1)))
    ∙ sym (append_assoc a (m ++ c (cap_lines (eqb caps.lines 6))) q.1))
    in
    let o : Lawful (sheet_with h sides caps) =
    record {
      height = x.0;
      subdivisions = x.1;
      sides = y.0;
      pairs = y.1;
      corners = subst (λ (n : ℕ). FirstUsed 12 (2 * n) caps.numbers) (sym k) z.1;
    }
    in
    subst₂ (Sheeted s) (taken-value v.1) (taken-rest v.1) (o, w)

-- ---- what `read` promises
pub complete : (s : Sheet) → Lawful s → reading (sheet_text s) ≡ Some s
unfolding reading
complete s l = ap whole (ap sheet_of (sym (append-nil (sheet_text s))) ∙ sheet-exact s [] l)

pub sound : (bytes : List ℕ) (s : Sheet) → reading bytes ≡ Some s → Lawful s × (bytes ≡ sheet_text s)
unfolding reading
sound bytes s e = go (sheet_of bytes) refl e
  where
    go : (t : Taken Sheet) → sheet_of bytes ≡ t → whole t ≡ Some s → Lawful s × (bytes ≡ sheet_text s)
    go none p h = cc
    go (taken b []) p h =
        let x = sheet-sound bytes b [] p in
        let same : b ≡ s = cc in
        subst (λ (y : Sheet). Lawful y × (bytes ≡ sheet_text y)) same (x.0, x.1 ∙ append-nil (sheet_text b))
    go (taken b (c ∷ r)) p h = cc

-- what is not read is the text of no lawful sheet
pub refused : (bytes : List ℕ) → reading bytes ≡ None → (s : Sheet) → Lawful s → bytes ≡ sheet_text s → ⊥
refused bytes e s l p = let q : reading bytes ≡ Some s = ap reading p ∙ complete s l in cc

-- two lawful sheets have two texts
pub distinct : (s t : Sheet) → Lawful s → Lawful t → sheet_text s ≡ sheet_text t → s ≡ t
distinct s t l m e = let p : Some s ≡ Some t = sym (complete s l) ∙ (ap reading e ∙ complete t m) in cc
