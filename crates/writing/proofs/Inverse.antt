-- Reading what was written: each number reads back as it was written, the positions in turn, and the columns that survive.
use Prim.Native.Nat.{ℕ, zero, suc, ◌+◌, ◌-◌, ◌*◌, ◌≤◌, ◌<◌}
use mathlib.Core.Path.{◌≡◌, refl, sym, ap, ap₂, ◌∙◌}
use mathlib.Core.Bool.{Bool, true, false, cond}
use mathlib.Core.List.{List, [], ◌∷◌, ◌++◌, append_assoc}
use native.Mathlib.Nat.{suc-mul, add-zero, zero-add}
use native.Mathlib.Omega.{arith}
use lib.ListN.{length, get_or, take, drop, replicate, length-drop, length-append, length-replicate, get_or-append}
use lib.Seq.{take_at, drop_at, drop-drop, drop-append_seam, length-take-le, get_or-take, get_or-drop, get_or-append-add}
use Rattle.field.specs.Bytes.{Bytes}
use Rattle.stripe.specs.declared.Shape.{Shape}
use Rattle.stripe.specs.Shape.{columns, stripe_length}
use Rattle.stripe.specs.Stripe.{among, Ascending, Agree}
use Rattle.stripe.proofs.Allowed.{Allowed}
use Rattle.number.specs.Number.{Standing, Value, number_at, number_refusal, written, value_of, next_of}
use Rattle.writing.specs.Writing.{LaidOut}
use Rattle.record.specs.Layout.{positions_written, survivors, kept, restored, record_of}
use Rattle.record.specs.Reading.{first_number, second_number, third_number, fourth_number, count_number, shape_read, count_of}
use Rattle.record.specs.Reading.{lost_listed, columns_start, stripe_refusal}
use Rattle.record.specs.Reading.{head_refusal, positions_refusal, positions_at, after_positions, content_refusal, columns_filled}
use Rattle.number.proofs.Written.{read_written}
use Rattle.record.proofs.Survivors.{restored_lost, restored_kept, survivors_lost, survivors_kept}
use Rattle.record.proofs.Refusals.{described, position_lawful, skip, only, shape_is, head_lawful, rest_columns, columns_exact, content_rest, stripe_lawful}
use Rattle.record.proofs.Refusals.{stripe_shaped, head_described}
use Rattle.record.proofs.Accepted.{accepted}
use Rattle.record.proofs.Exactly.{accepts_only, columns_enough, joined}
use Rattle.writing.proofs.Putting.{mark_small, few_lost, survivors_bytes, head_is, record_is}

-- ---- numbers one after the other

-- a number at a place, and what is left after it
record Next (s : List ℕ) (at v : ℕ) (q : List ℕ) : Type 0 where
  value : number_at s at ≡ Value v (at + length (written v))
  rest : drop (next_of (number_at s at)) s ≡ q

number_next : (s q : List ℕ) (at v : ℕ) → v ≤ 4294967295 → drop at s ≡ written v ++ q → Next s at v q
number_next s q at v h e =
    let n = read_written s q at v h e in
    record {
      value = n;
      rest =
          ap (λ (g : Standing). drop (next_of g) s) n ∙ sym (drop-drop (length (written v)) at s) ∙ ap (drop (length (written v))) e
          ∙ drop-append_seam (written v) q;
    }

-- the positions
record Listed (s : List ℕ) (n m least at : ℕ) (es q : List ℕ) : Type 0 where
  lawful : positions_refusal s n m least at ≡ 0
  list : positions_at s m at ≡ es
  after : drop (after_positions s m at) s ≡ q

positions_next : (s : List ℕ) (n m least at e : ℕ) (es q : List ℕ) → least ≤ e → e < n → number_at s at ≡ Value e (at + length (written e))
    → Listed s n m (suc e) (next_of (number_at s at)) es q → Listed s n (suc m) least at (e ∷ es) q
unfolding positions_refusal positions_at after_positions
positions_next s n m least at e es q l h g r =
    let v = ap value_of g in
    let no-refusal = ap number_refusal g in
    let p = position_lawful (number_at s at) least n no-refusal (omega arith) (omega arith) in
    let d : suc e ≡ value_of (number_at s at) + 1 = omega arith in
    record {
      lawful = sym (only _ ∙ skip _ _ (sym p)) ∙ ap (λ (x : ℕ). positions_refusal s n m x (next_of (number_at s at))) (sym d) ∙ r.lawful;
      list = ap₂ (λ (x : ℕ) (xs : List ℕ). x ∷ xs) v r.list;
      after = r.after;
    }

positions_read : (s : List ℕ) (n least at : ℕ) (es q : List ℕ) → n ≤ 4294967295 → Ascending least n es → drop at s ≡ positions_written es ++ q
    → Listed s n (length es) least at es q
unfolding positions_written Ascending positions_refusal positions_at after_positions
positions_read s n least at [] q b h e = record { lawful = refl; list = refl; after = e }
positions_read s n least at (x ∷ es) q b h e =
    let g = number_next s (positions_written es ++ q) at x (omega (arith, h.1)) (e ∙ append_assoc (written x) (positions_written es) q) in
    positions_next s n (length es) least at x es q h.0 h.1 g.value (positions_read s n (suc x) (next_of (number_at s at)) es q b h.2 g.rest)

-- ---- the whole record

module _ (sh : Shape) (es xs : List ℕ) (lawful : stripe_refusal sh ≡ 0) (ascending : Ascending 0 (columns sh) es) (exact : length xs ≡ stripe_length sh) where
  abbrev s : List ℕ
  s = record_of sh es xs

  abbrev columns_left : List ℕ
  columns_left = survivors sh.l es 0 (columns sh) xs

  good : Allowed sh
  good = (described sh lawful).0

  few : kept es 0 (columns sh) + length es ≡ columns sh
  few = few_lost (columns sh) es ascending

  split : s ≡ written sh.k ++ (written sh.r ++ (written sh.t ++ (written sh.l ++ (written (length es) ++ (positions_written es ++ columns_left)))))
  split =
      sym (record_is sh es xs) ∙ ap (λ (ys : List ℕ). ys ++ columns_left) (sym (head_is sh es))
      ∙ sym (joined (written sh.k) (written sh.r) (written sh.t) (written sh.l) (written (length es)) (positions_written es) columns_left)

  one : Next s 0 sh.k (written sh.r ++ (written sh.t ++ (written sh.l ++ (written (length es) ++ (positions_written es ++ columns_left)))))
  one = number_next s _ 0 sh.k (omega (arith, good.data_most)) split

  two : Next s (next_of (first_number s)) sh.r (written sh.t ++ (written sh.l ++ (written (length es) ++ (positions_written es ++ columns_left))))
  two = number_next s _ (next_of (first_number s)) sh.r (omega (arith, good.parity_most)) one.rest

  three : Next s (next_of (second_number s)) sh.t (written sh.l ++ (written (length es) ++ (positions_written es ++ columns_left)))
  three = number_next s _ (next_of (second_number s)) sh.t (omega (arith, mark_small sh good)) two.rest

  four : Next s (next_of (third_number s)) sh.l (written (length es) ++ (positions_written es ++ columns_left))
  four = number_next s _ (next_of (third_number s)) sh.l (omega (arith, good.length_most)) three.rest

  five : Next s (next_of (fourth_number s)) (length es) (positions_written es ++ columns_left)
  five = number_next s _ (next_of (fourth_number s)) (length es) (omega (arith, few, good.columns_most)) four.rest

  read : Listed s (columns sh) (length es) 0 (next_of (count_number s)) es columns_left
  read = positions_read s (columns sh) 0 (next_of (count_number s)) es columns_left (omega (arith, good.columns_most)) ascending five.rest

  -- the same shape, and the same list
  pub shape_back : sh ≡ shape_read s
  shape_back =
      shape_is sh _ _ _ _ (sym (ap value_of one.value)) (sym (ap value_of two.value)) (sym (ap value_of three.value)) (sym (ap value_of four.value))

  pub count_back : count_of s ≡ length es
  count_back = ap value_of five.value

  pub lost_back : lost_listed s ≡ es
  lost_back = ap (λ (m : ℕ). positions_at s m (next_of (count_number s))) count_back ∙ read.list

  pub columns_back : drop (columns_start s) s ≡ columns_left
  columns_back = ap (λ (m : ℕ). drop (after_positions s m (next_of (count_number s))) s) count_back ∙ read.after

  head_zero : head_refusal s ≡ 0
  head_zero =
      sym (head_lawful s (ap number_refusal one.value) (ap number_refusal two.value) (ap number_refusal three.value) (ap number_refusal four.value)
      (ap stripe_refusal (sym shape_back) ∙ lawful))

  wide : columns (shape_read s) ≡ columns sh
  wide = ap (λ (v : Shape). columns v) (sym shape_back)

  bytes : length s - columns_start s ≡ (columns (shape_read s) - count_of s) * (shape_read s).l
  bytes =
      let k : kept es 0 (columns sh) ≡ columns (shape_read s) - count_of s = omega (arith, few, wide, count_back) in
      sym (length-drop (columns_start s) s) ∙ ap length columns_back ∙ survivors_bytes sh.l 0 (columns sh) es xs (omega (arith, exact))
      ∙ ap₂ (λ (n : ℕ) (v : Shape). n * v.l) k shape_back

  -- reading accepts it
  pub accepted_back : content_refusal s ≡ 0
  accepted_back =
      let p = ap₂ (λ (n m : ℕ). positions_refusal s n m 0 (next_of (count_number s))) wide count_back ∙ read.lawful in
      let f : count_of s ≤ columns (shape_read s) = omega (arith, few, wide, count_back) in
      let c = columns_exact (length s - columns_start s) ((columns (shape_read s) - count_of s) * (shape_read s).l)
      (omega (arith, bytes)) (omega (arith, bytes)) in
      sym (content_rest s head_zero) ∙ sym (rest_columns s (shape_read s) (count_number s) (ap number_refusal five.value) f p 0 c)

  -- the buffer is filled from the columns that survived
  pub filled_back : (ys : List ℕ) → columns_filled s ys ≡ restored sh.l es 0 (columns sh) columns_left ys
  filled_back ys =
      ap (λ (v : Shape). restored v.l (lost_listed s) 0 (columns v) (drop (columns_start s) s) ys) (sym shape_back)
      ∙ ap₂ (λ (z u : List ℕ). restored sh.l z 0 (columns sh) u ys) lost_back columns_back

-- ---- the surviving bytes

-- the first of several columns that are restored: the bytes that were there where it is lost, else the first column that survived
module _ (l c m : ℕ) (es xs ys : List ℕ) (long : l ≤ length xs) (room : l ≤ length ys) where
  abbrev after : List ℕ
  after = restored l es (suc c) m (survivors l es (suc c) m (drop l xs)) (drop l ys)

  abbrev whole : List ℕ
  whole = restored l es c (suc m) (survivors l es c (suc m) xs) ys

  whole_lost : among c es ≡ true → whole ≡ take l ys ++ after
  whole_lost a =
      restored_lost l c m es (survivors l es c (suc m) xs) ys a
      ∙ ap (λ (zs : List ℕ). take l ys ++ restored l es (suc c) m zs (drop l ys)) (survivors_lost l c m es xs a)

  whole_kept : among c es ≡ false → whole ≡ take l xs ++ after
  whole_kept a =
      let z = length-take-le l xs long in
      let rest = survivors l es (suc c) m (drop l xs) in
      restored_kept l c m es (survivors l es c (suc m) xs) ys a
      ∙ ap (λ (zs : List ℕ). take l zs ++ restored l es (suc c) m (drop l zs) (drop l ys)) (survivors_kept l c m es xs a)
      ∙ ap₂ (λ (u v : List ℕ). u ++ restored l es (suc c) m v (drop l ys)) (take_at (take l xs) rest l z) (drop_at (take l xs) rest l z)

  -- a byte of that column, and a byte past it
  first_byte : (p : ℕ) → p < l → among c es ≡ false → get_or whole p 0 ≡ get_or xs p 0
  first_byte p h a =
      ap (λ (zs : List ℕ). get_or zs p 0) (whole_kept a) ∙ get_or-append (take l xs) after 0 p (omega (arith, length-take-le l xs long))
      ∙ get_or-take l xs p 0 h

  past : (zs : List ℕ) (i : ℕ) → length zs ≡ l → get_or (zs ++ after) (l + i) 0 ≡ get_or after i 0
  past zs i e = ap (λ (n : ℕ). get_or (zs ++ after) (n + i) 0) (sym e) ∙ get_or-append-add zs after i 0

  later_byte : (b : Bool) (i : ℕ) → among c es ≡ b → get_or whole (l + i) 0 ≡ get_or after i 0
  later_byte true i a = ap (λ (zs : List ℕ). get_or zs (l + i) 0) (whole_lost a) ∙ past (take l ys) i (length-take-le l ys room)
  later_byte false i a = ap (λ (zs : List ℕ). get_or zs (l + i) 0) (whole_kept a) ∙ past (take l xs) i (length-take-le l xs long)

-- the byte at place p of the j-th of m columns, the first of which stands at position c
restored_byte : (l c m j p : ℕ) (es xs ys : List ℕ) → m * l ≤ length xs → m * l ≤ length ys → j < m → p < l → among (c + j) es ≡ false
    → get_or (restored l es c m (survivors l es c m xs) ys) (j * l + p) 0 ≡ get_or xs (j * l + p) 0
restored_byte l c zero j p es xs ys hx hy hj hp a = absurd (omega arith)
restored_byte l c (suc m) zero p es xs ys hx hy hj hp a =
    let q = suc-mul m l in
    let e : 0 * l + p ≡ p = omega arith in
    let f : among c es ≡ false = ap (λ (i : ℕ). among i es) (sym (add-zero c)) ∙ a in
    ap (λ (i : ℕ). get_or (restored l es c (suc m) (survivors l es c (suc m) xs) ys) i 0) e
    ∙ first_byte l c m es xs ys (omega arith) (omega arith) p hp f ∙ ap (λ (i : ℕ). get_or xs i 0) (sym e)
restored_byte l c (suc m) (suc j) p es xs ys hx hy hj hp a =
    let q = suc-mul m l in
    let e : suc j * l + p ≡ l + (j * l + p) = omega (arith, suc-mul j l) in
    let f : among (suc c + j) es ≡ false = ap (λ (i : ℕ). among i es) (omega arith) ∙ a in
    ap (λ (i : ℕ). get_or (restored l es c (suc m) (survivors l es c (suc m) xs) ys) i 0) e
    ∙ later_byte l c m es xs ys (omega arith) (omega arith) (among c es) (j * l + p) refl
    ∙ restored_byte l (suc c) m j p es (drop l xs) (drop l ys) (omega (arith, length-drop l xs)) (omega (arith, length-drop l ys)) (omega arith) hp f
    ∙ get_or-drop l xs (j * l + p) 0 ∙ ap (λ (i : ℕ). get_or xs i 0) (sym e)

-- reading what was written gives the surviving bytes: the stripe that was written and the filled buffer agree but for the lost columns
pub bytes_back : (sh : Shape) (es xs ys : List ℕ) → stripe_refusal sh ≡ 0 → Ascending 0 (columns sh) es → length xs ≡ stripe_length sh
    → stripe_length sh ≤ length ys
    → Agree sh es xs (columns_filled (record_of sh es xs) ys)
bytes_back sh es xs ys lawful ascending exact room c p hc hp a =
    sym (ap (λ (zs : List ℕ). get_or zs (c * sh.l + p) 0) (filled_back sh es xs lawful ascending exact ys)
    ∙ restored_byte sh.l 0 (columns sh) c p es xs ys (omega (arith, exact)) room hc hp (ap (λ (i : ℕ). among i es) (omega arith) ∙ a))

-- ---- exactly the layout

restored-one : (l c m : ℕ) (es ys xs : List ℕ) (b : Bool) → among c es ≡ b → l ≤ length xs → (b ≡ false → l ≤ length ys)
    → length (restored l es c (suc m) ys xs) ≡ l + length (restored l es (suc c) m (cond b ys (drop l ys)) (drop l xs))
restored-one l c m es ys xs true a h k =
    ap length (restored_lost l c m es ys xs a) ∙ length-append (take l xs) (restored l es (suc c) m ys (drop l xs))
    ∙ ap (λ (n : ℕ). n + length (restored l es (suc c) m ys (drop l xs))) (length-take-le l xs h)
restored-one l c m es ys xs false a h k =
    ap length (restored_kept l c m es ys xs a) ∙ length-append (take l ys) (restored l es (suc c) m (drop l ys) (drop l xs))
    ∙ ap (λ (n : ℕ). n + length (restored l es (suc c) m (drop l ys) (drop l xs))) (length-take-le l ys (k refl))

left_over : (l k : ℕ) (ys : List ℕ) (b : Bool) → (cond b 0 1 + k) * l ≤ length ys → (k * l ≤ length (cond b ys (drop l ys))) × (b ≡ false → l ≤ length ys)
left_over l k ys true h =
    (omega (arith, ap (λ (n : ℕ). n * l) (zero-add k)), λ e. absurd (let z : ◌≡◌ {A = ℕ} 0 1 = ap (λ (x : Bool). cond x 0 1) e in omega arith))
left_over l k ys false h =
    let e : (1 + k) * l ≡ suc k * l = ap (λ (n : ℕ). n * l) (omega arith) in
    (omega (arith, length-drop l ys, suc-mul k l), λ z. omega (arith, suc-mul k l))

-- a buffer keeps its length
pub restored-length : (l c m : ℕ) (es ys xs : List ℕ) → m * l ≤ length xs → kept es c m * l ≤ length ys → length (restored l es c m ys xs) ≡ length xs
unfolding restored kept
restored-length l c zero es ys xs hx hy = refl
restored-length l c (suc m) es ys xs hx hy =
    let q = suc-mul m l in
    let r = left_over l (kept es (suc c) m) ys (among c es) hy in
    let f = restored-length l (suc c) m es (cond (among c es) ys (drop l ys)) (drop l xs) (omega (arith, length-drop l xs)) r.0 in
    restored-one l c m es ys xs (among c es) refl (omega arith) r.1 ∙ omega (arith, length-drop l xs)

-- a record is accepted exactly when its bytes have the layout
pub accepts : (bs : List ℕ) → LaidOut bs → content_refusal bs ≡ 0
accepts bs w =
    ap content_refusal w.bytes
    ∙ accepted_back w.shape w.lost w.stripe (sym (stripe_lawful w.shape w.allowed w.short)) w.ascending w.exact

pub accepts_no_other : (bs : List ℕ) → Bytes bs → content_refusal bs ≡ 0 → LaidOut bs
accepts_no_other bs h e =
    let w = accepted bs e in
    let room : List ℕ = replicate (stripe_length (shape_read bs)) 0 in
    let long : length room ≡ stripe_length (shape_read bs) = length-replicate (stripe_length (shape_read bs)) 0 in
    record {
      shape = shape_read bs;
      lost = lost_listed bs;
      stripe = columns_filled bs room;
      allowed = stripe_shaped (shape_read bs) (head_described bs w.head_read);
      short = w.stripe_short;
      ascending = w.ascending;
      exact =
          restored-length (shape_read bs).l 0 (columns (shape_read bs)) (lost_listed bs) (drop (columns_start bs) bs) room (omega (arith, long))
          (omega (arith, columns_enough bs w)) ∙ long;
      bytes = accepts_only bs room h e (omega (arith, long));
    }
