-- The plan of a fold (document 01, 'Folding'): which folds are refused, what a fold reads of each stripe, and how much it reads and writes.
-- N stripes of shape s are folded into one wide stripe with f parity columns.
use Rattle.std.specs.Prelude.{ℕ, zero, suc, ◌+◌, ◌-◌, ◌*◌, ◌/◌, Bool, cond, ◌&&◌, ◌||◌, List, [], ◌∷◌, ◌++◌, leb, ltb, eqb, get_or}
use Rattle.stripe.specs.declared.Shape.{Shape}
use Rattle.stripe.specs.Shape.{shape_refusal, most_data, most_rows, most_points, no_shape}
use Rattle.stripe.specs.Stripe.{plain_runs}
use Rattle.plan.specs.declared.Kind.{Kind}
use Rattle.plan.specs.declared.Kind.TheVariants.{A, B, C}
use Rattle.plan.specs.declared.Span.{Span}

-- N is 2 to 255, with N*k <= 255; where r is above 3, with N*k+r <= 255
abbrev pub stripes_allowed : ℕ → ℕ → ℕ → Bool
stripes_allowed k r n = leb 2 n && leb n 255 && leb (n * k) most_data && (leb r most_rows || leb (n * k + r) most_points)

-- f is 1 to 3, and t if t is not 0; where r is above 3, f is r
abbrev pub new_allowed : ℕ → ℕ → ℕ → Bool
new_allowed r t f = cond (leb r most_rows) (leb 1 f && leb f most_rows && (eqb t 0 || eqb f t)) (eqb f r)

-- the refusal of a fold: 1 and 2 for the shape, 3 for N, 4 for f, 0 for none
unfoldable pub fold_refusal : Shape → ℕ → ℕ → ℕ
fold_refusal s n f =
    cond (eqb (shape_refusal s) 0) (cond (stripes_allowed s.k s.r n) (cond (new_allowed s.r s.t f) 0 4) 3) (shape_refusal s)

-- A if t = 0, f <= r and f <= k; B if t = f, which for t other than 0 is the only f allowed; C if t = 0 otherwise
unfoldable pub kind_of : Shape → ℕ → Kind
kind_of s f = cond (eqb s.t 0) (cond (leb f s.r && leb f s.k) A C) B

-- the same part of m columns of stripe n, in order of their positions, the first of which is c
unfoldable pub column_spans : ℕ → ℕ → ℕ → ℕ → ℕ → List Span
column_spans n first many c zero = []
column_spans n first many c (suc m) =
    record { stripe = n; position = c; first = first; length = many } ∷ column_spans n first many (suc c) m

-- what the plan reads of stripe n. A: parity columns 0 to f-1, whole. B: from each data column the runs r to t-1; every parity
-- column whole. C: every data column, whole
unfoldable pub kind_spans : Kind → Shape → ℕ → ℕ → List Span
kind_spans A s f n = column_spans n 0 s.l s.k f
kind_spans B s f n =
    column_spans n (plain_runs s * (s.l / s.t)) ((s.t - plain_runs s) * (s.l / s.t)) 0 s.k ++ column_spans n 0 s.l s.k s.r
kind_spans C s f n = column_spans n 0 s.l 0 s.k

-- what the plan reads of m stripes, in order, the first of which is n
unfoldable pub spans_from : Shape → ℕ → ℕ → ℕ → List Span
spans_from s f n zero = []
spans_from s f n (suc m) = kind_spans (kind_of s f) s f n ++ spans_from s f (suc n) m

-- the plan: stripes in order, then positions in order, one span per column read. A refused fold has none
unfoldable pub plan : Shape → ℕ → ℕ → List Span
plan s n f = cond (eqb (fold_refusal s n f) 0) (spans_from s f 0 n) []

-- the column that is number i of those read of stripe n, as a span
unfoldable pub column_span : Kind → Shape → ℕ → ℕ → Span
column_span A s n i = record { stripe = n; position = s.k + i; first = 0; length = s.l }
column_span B s n i =
    cond (ltb i s.k)
    (record { stripe = n; position = i; first = plain_runs s * (s.l / s.t); length = (s.t - plain_runs s) * (s.l / s.t) })
    (record { stripe = n; position = i; first = 0; length = s.l })
column_span C s n i = record { stripe = n; position = i; first = 0; length = s.l }

-- a span of no bytes
abbrev pub no_span : Span
no_span = record { stripe = 0; position = 0; first = 0; length = 0 }

-- span number i of the plan, and a span of no bytes past its end
unfoldable pub span_at : Shape → ℕ → ℕ → ℕ → Span
span_at s n f i = get_or (plan s n f) i no_span

-- the lengths of spans, summed
unfoldable pub summed : List Span → ℕ
summed [] = 0
summed (x ∷ xs) = x.length + summed xs

-- how many columns are read of each stripe, by the table
unfoldable pub columns_each : Kind → Shape → ℕ → ℕ
columns_each A s f = f
columns_each B s f = s.k + s.r
columns_each C s f = s.k

-- how many bytes are read of each stripe, by the table
unfoldable pub bytes_each : Kind → Shape → ℕ → ℕ
bytes_each A s f = f * s.l
bytes_each B s f = (s.r * s.t + s.k * (s.t - s.r)) * (s.l / s.t)
bytes_each C s f = s.k * s.l

-- how many columns the plan reads in all; none where the fold is refused
unfoldable pub columns_read : Shape → ℕ → ℕ → ℕ
columns_read s n f = cond (eqb (fold_refusal s n f) 0) (n * columns_each (kind_of s f) s f) 0

-- how many bytes the plan reads in all: N*f*L, N*(r*t + k*(t-r))*(L/t) or N*k*L; none where the fold is refused
unfoldable pub bytes_read : Shape → ℕ → ℕ → ℕ
bytes_read s n f = cond (eqb (fold_refusal s n f) 0) (n * bytes_each (kind_of s f) s f) 0

-- how many columns the fold writes, those of the new parity; none where it is refused
unfoldable pub columns_written : Shape → ℕ → ℕ → ℕ
columns_written s n f = cond (eqb (fold_refusal s n f) 0) f 0

-- how many bytes the fold writes, f*L; none where it is refused
unfoldable pub bytes_written : Shape → ℕ → ℕ → ℕ
bytes_written s n f = cond (eqb (fold_refusal s n f) 0) (f * s.l) 0

-- the access cost: columns read and columns written (000, II-B; 003; document 02, request 2)
abbrev pub access_cost : Shape → ℕ → ℕ → ℕ
access_cost s n f = columns_read s n f + columns_written s n f

-- the conversion bandwidth: bytes read and bytes written (000, Definition 2; document 02, request 2)
abbrev pub conversion_bandwidth : Shape → ℕ → ℕ → ℕ
conversion_bandwidth s n f = bytes_read s n f + bytes_written s n f

-- the shape of the wide stripe: plain, all data columns, f parity columns, L bytes to a column
abbrev pub wide_shape : Shape → ℕ → ℕ → Shape
wide_shape s n f = record { k = n * s.k; r = f; t = 0; l = s.l }

-- the same, and where the fold is refused a shape of no columns, which is never allowed
unfoldable pub wide_answer : Shape → ℕ → ℕ → Shape
wide_answer s n f = cond (eqb (fold_refusal s n f) 0) (wide_shape s n f) no_shape
