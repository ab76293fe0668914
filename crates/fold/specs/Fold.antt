-- The fold (document 01, 'Folding'; document 02, request 6): its answer for all bytes, codewords or not, from the joined bytes of the
-- plan; and the bytes that the plan names of whole stripes.
use Rattle.std.specs.Prelude.{ℕ, ◌+◌, ◌-◌, ◌*◌, ◌/◌, ◌%◌, cond, ◌&&◌, List, [], ◌∷◌, ◌++◌, map, ltb, eqb, length, get_or, take, drop}
use Rattle.field.specs.Field.{◌⊕◌}
use Rattle.field.specs.Bytes.{tabulate}
use Rattle.field.specs.Row.{row}
use Rattle.points.specs.Folding.{joined, parts}
use Rattle.stripe.specs.declared.Shape.{Shape}
use Rattle.stripe.specs.Stripe.{across, run_length, by_points, parity_byte, parity, data_of, plain_runs}
use Rattle.equations.specs.Whole.{fold_columns}
use Rattle.plan.specs.declared.Span.{Span}
use Rattle.plan.specs.declared.Kind.{Kind}
use Rattle.plan.specs.declared.Kind.TheVariants.{A, B, C}
use Rattle.plan.specs.Plan.{fold_refusal, kind_of, bytes_each, bytes_read, kind_spans, plan, wide_shape}

-- ---- kind B: what is read of a stripe is a part of each data column, the runs r to t-1, then the parity columns

-- the bytes read of a data column
abbrev pub part_bytes : Shape → ℕ
part_bytes s = (s.t - plain_runs s) * run_length s

-- the byte of parity column i at place p
unfoldable pub read_parity : Shape → List ℕ → ℕ → ℕ → ℕ
read_parity s xs i p = get_or xs (s.k * part_bytes s + (i * s.l + p)) 0

-- row i of run b of the data, at place e of the run; b >= r
unfoldable pub read_row : Shape → List ℕ → ℕ → ℕ → ℕ → ℕ
read_row s xs i b e = row i (across xs (part_bytes s) ((b - plain_runs s) * run_length s + e) 0 s.k)

-- what a stripe adds to wide row j at place e of run b. If b >= r: row j of the data. If b < r: run b of parity column j if
-- j < r; if j >= r, run j of parity column b plus row b of run j
unfoldable pub run_share : Shape → List ℕ → ℕ → ℕ → ℕ → ℕ
run_share s xs j b e =
    cond (ltb b (plain_runs s))
    (cond (ltb j s.r) (read_parity s xs j (b * run_length s + e))
    (read_parity s xs b (j * run_length s + e) ⊕ read_row s xs b j e))
    (read_row s xs j b e)

-- ---- by rows, all kinds

-- what a stripe adds to wide row j at place p, from the bytes read of it. A: its parity column j. B: run by run. C: row j of its data
unfoldable pub share : Kind → Shape → List ℕ → ℕ → ℕ → ℕ
share A s xs j p = get_or xs (j * s.l + p) 0
share B s xs j p = run_share s xs j (p / run_length s) (p % run_length s)
share C s xs j p = row j (across xs s.l p 0 s.k)

-- wide row j at place p: the sum over the stripes l, in order, of g^(j*k*l) times what the stripe adds, which is row j*k of that
unfoldable pub fold_byte : Kind → Shape → List (List ℕ) → ℕ → ℕ → ℕ
fold_byte κ s xss j p = row (j * s.k) (map (λ xs. share κ s xs j p) xss)

-- the f parity columns of the wide stripe, in order
unfoldable pub fold_by_rows : Shape → ℕ → List (List ℕ) → List ℕ
fold_by_rows s f xss = tabulate (f * s.l) (λ i. fold_byte (kind_of s f) s xss (i / s.l) (i % s.l))

-- ---- r from 4 to 16: the code is given by check equations

-- the parity columns of the wide stripe. A: from the parity columns of each stripe. C: the parity of all data in order. B is by rows only
unfoldable pub fold_by_points : Kind → Shape → ℕ → List (List ℕ) → List ℕ
fold_by_points A s f xss = fold_columns s.k s.r s.l xss
fold_by_points B s f xss = []
fold_by_points C s f xss = parity (wide_shape s (length xss) f) (joined xss)

-- ---- any r

-- the parity columns of the wide stripe, in order, from the bytes read of each stripe
unfoldable pub fold_stripes : Shape → ℕ → List (List ℕ) → List ℕ
fold_stripes s f xss = cond (by_points s) (fold_by_points (kind_of s f) s f xss) (fold_by_rows s f xss)

-- the fold's answer, from the joined bytes of the plan
unfoldable pub fold_of : Shape → ℕ → ℕ → List ℕ → List ℕ
fold_of s n f xs = fold_stripes s f (parts (bytes_each (kind_of s f) s f) n xs)

-- ---- the call

-- the answer's number: the refusal of the fold, then 5 for a lent buffer of another length
unfoldable pub fold_verdict : Shape → ℕ → ℕ → ℕ → ℕ → ℕ
fold_verdict s n f a b =
    cond (eqb (fold_refusal s n f) 0) (cond (eqb a (bytes_read s n f) && eqb b (f * s.l)) 0 5) (fold_refusal s n f)

-- what the parity holds in the end: the fold's answer, or what it held where the call is refused
unfoldable pub fold_filled : Shape → ℕ → ℕ → List ℕ → List ℕ → List ℕ
fold_filled s n f xs ys = cond (eqb (fold_verdict s n f (length xs) (length ys)) 0) (fold_of s n f xs) ys

-- ---- whole stripes

-- the data of the wide stripe: the data of all stripes in order
unfoldable pub wide_data : Shape → List (List ℕ) → List ℕ
wide_data s zss = joined (map (λ zs. data_of s zs) zss)

-- the bytes that a span names
unfoldable pub named : Shape → List (List ℕ) → Span → List ℕ
named s zss x = take x.length (drop (x.position * s.l + x.first) (get_or zss x.stripe []))

-- the bytes that spans name of whole stripes, joined in their order
unfoldable pub cut_out : Shape → List (List ℕ) → List Span → List ℕ
cut_out s zss [] = []
cut_out s zss (x ∷ xs) = named s zss x ++ cut_out s zss xs

-- the bytes that the plan names of one stripe
unfoldable pub read_of : Kind → Shape → ℕ → List ℕ → List ℕ
read_of κ s f zs = cut_out s (zs ∷ []) (kind_spans κ s f 0)

-- the wide stripe: the data of all stripes, and the fold of what the plan names of them
unfoldable pub wide_stripe : Shape → ℕ → ℕ → List (List ℕ) → List ℕ
wide_stripe s n f zss = wide_data s zss ++ fold_of s n f (cut_out s zss (plan s n f))

-- ---- stripes that are no codewords

-- a stripe's disagreement at place p of parity column i: the byte it holds plus the byte by definition
unfoldable pub disagreement : Shape → List ℕ → ℕ → ℕ → ℕ
disagreement s zs i p = get_or zs ((s.k + i) * s.l + p) 0 ⊕ parity_byte s (data_of s zs) i p

-- how many parity columns the plan names of a stripe; they are the first ones
unfoldable pub parity_named : Kind → Shape → ℕ → ℕ
parity_named A s f = f
parity_named B s f = s.r
parity_named C s f = 0

-- the disagreement of a stripe that its fold carries on to place e of run b of wide row j: none if b >= r
unfoldable pub run_carried : Shape → List ℕ → ℕ → ℕ → ℕ → ℕ
run_carried s zs j b e =
    cond (ltb b (plain_runs s))
    (cond (ltb j s.r) (disagreement s zs j (b * run_length s + e)) (disagreement s zs b (j * run_length s + e)))
    0

-- the disagreement of a stripe that its fold, by rows, carries on to place p of wide row j
unfoldable pub carried : Kind → Shape → List ℕ → ℕ → ℕ → ℕ
carried A s zs j p = disagreement s zs j p
carried B s zs j p = run_carried s zs j (p / run_length s) (p % run_length s)
carried C s zs j p = 0
