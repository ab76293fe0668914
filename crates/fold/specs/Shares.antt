-- How a fold by rows that reads parity, kind A or B, is computed: stripe by stripe, from the last to the first, and run by run of the
-- wide parity. What a stripe adds to a run is stored in the bytes read of it, in the rows of its data, or in both. Many stripes of
-- kind A go a wide row at a time. A fold by points, kind A or C, takes all columns read at once.
use Rattle.std.specs.Prelude.{ℕ, ◌+◌, ◌-◌, ◌*◌, ◌/◌, ◌%◌, ◌<◌, ◌≤◌, ◌≡◌, Bool, true, false, cond, List, ltb, eqb, length, get_or, take, drop}
use Rattle.field.specs.Field.{◌⊕◌, ◌⊗◌, gpow}
use Rattle.field.specs.Bytes.{tabulate}
use Rattle.field.specs.Row.{row}
use Rattle.lanes.specs.Lanes.{onto}
use Rattle.stripe.specs.declared.Shape.{Shape}
use Rattle.stripe.specs.Shape.{shape_refusal}
use Rattle.stripe.specs.Stripe.{across, run_length, by_points, plain_runs}
use Rattle.constants.specs.Constants.{encoding_of, folding_of}
use Rattle.plan.specs.declared.Kind.TheVariants.{A, C}
use Rattle.plan.specs.Plan.{fold_refusal, new_allowed, kind_of, bytes_read}
use Rattle.fold.specs.declared.shares.Share.{Share}
use Rattle.fold.specs.declared.shares.Share.TheVariants.{Read, Row, Both}
use Rattle.fold.specs.Fold.{part_bytes, share}

-- a fold by rows that reads parity, of an allowed shape and an allowed f
pub record ReadsParity (s : Shape) (f : ℕ) : Type 0 where
  pub shape : shape_refusal s ≡ 0
  pub new : new_allowed s.r s.t f ≡ true
  pub rows : by_points s ≡ false
  pub kind : kind_of s f ≡ C → ⊥

-- a fold by points, of n stripes of an allowed shape, is lent a bytes to read and b to fill; its f is r
pub record ReadsColumns (s : Shape) (n a b : ℕ) : Type 0 where
  pub passed : fold_refusal s n s.r ≡ 0
  pub points : by_points s ≡ true
  pub read_long : a ≡ bytes_read s n s.r
  pub parity_long : b ≡ s.r * s.l

-- how many columns such a fold reads of each stripe: its data columns if k < r, kind C, else its parity columns, kind A
unfoldable pub read_columns : Shape → ℕ
read_columns s = cond (ltb s.k s.r) s.k s.r

-- what each byte read counts in each byte of the wide parity: as in the encoding of the wide stripe, or in the fold
unfoldable pub read_constants : Shape → ℕ → List ℕ
read_constants s n = cond (ltb s.k s.r) (encoding_of (n * s.k) s.r) (folding_of s.k s.r n)

-- ys holds rows 0 to f-1 of the data read of a stripe, one after the other; of a plain stripe no data are read
pub record IsRows (s : Shape) (f : ℕ) (xs ys : List ℕ) : Type 0 where
  pub long : length ys ≡ f * part_bytes s
  pub at : (j p : ℕ) → j < f → p < part_bytes s → get_or ys (j * part_bytes s + p) 0 ≡ row j (across xs (part_bytes s) p 0 s.k)

-- the share at place e of the run, from the bytes read of a stripe and its rows
unfoldable pub share_at : Share → List ℕ → List ℕ → ℕ → ℕ
share_at (Read at) xs ys e = get_or xs (at + e) 0
share_at (Row at) xs ys e = get_or ys (at + e) 0
share_at (Both at from) xs ys e = get_or xs (at + e) 0 ⊕ get_or ys (from + e) 0

-- a share of q bytes lies within m bytes read and n bytes of rows
unfoldable pub Within : Share → ℕ → ℕ → ℕ → Type 0
Within (Read at) q m n = at + q ≤ m
Within (Row at) q m n = at + q ≤ n
Within (Both at from) q m n = (at + q ≤ m) × (from + q ≤ n)

-- what stays of byte x as a stripe is taken in: nothing if it is the first to be, else x times g^w
unfoldable pub stays : Bool → ℕ → ℕ → ℕ
stays first w x = cond first 0 (gpow w ⊗ x)

-- what stays of the bytes of xs, and as many bytes of ds from `at` on, place by place
abbrev pub stepped : Bool → ℕ → List ℕ → List ℕ → ℕ → List ℕ
stepped first w xs ds at = onto (λ (x y : ℕ). stays first w x ⊕ y) xs (take (at + length xs - at) (drop at ds))

-- ys is what stays of xs, and v e, at each place e
pub record Summed (first : Bool) (w : ℕ) (v : ℕ → ℕ) (xs ys : List ℕ) : Type 0 where
  pub long : length ys ≡ length xs
  pub at : (e : ℕ) → e < length xs → get_or ys e 0 ≡ stays first w (get_or xs e 0) ⊕ v e

-- what a stripe adds to run b of wide row j
unfoldable pub share_of : Shape → ℕ → ℕ → Share
share_of s j b =
    cond (eqb s.t 0) (Read (j * s.l))
    (cond (ltb b (plain_runs s))
    (cond (ltb j s.r) (Read (s.k * part_bytes s + (j * s.l + b * run_length s)))
    (Both (s.k * part_bytes s + (b * s.l + j * run_length s)) (b * part_bytes s + (j - plain_runs s) * run_length s)))
    (Row (j * part_bytes s + (b - plain_runs s) * run_length s)))

-- the wide parity ys once a stripe is taken in, from the bytes read of it
unfoldable pub taken : Shape → ℕ → Bool → List ℕ → List ℕ → List ℕ
taken s f first xs ys =
    tabulate (f * s.l) (λ i. stays first (i / s.l * s.k) (get_or ys i 0) ⊕ share (kind_of s f) s xs (i / s.l) (i % s.l))

-- a fold by rows, of kind A: of n stripes of an allowed shape, lent a bytes to read and b to fill
pub record ReadsPlain (s : Shape) (n f a b : ℕ) : Type 0 where
  pub passed : fold_refusal s n f ≡ 0
  pub rows : by_points s ≡ false
  pub kind : kind_of s f ≡ A
  pub read_long : a ≡ bytes_read s n f
  pub parity_long : b ≡ f * s.l

-- ---- a wide row from n columns that start at `from`, each `stride` after the one before

-- the columns, of `count` bytes each, lie within a bytes
pub record InColumns (a from stride n count : ℕ) : Type 0 where
  pub some : 1 ≤ n
  pub most : n ≤ 255
  pub places_some : 1 ≤ count
  pub places_most : count ≤ 4096
  pub inside : (i : ℕ) → i < n → from + i * stride + count ≤ a

-- the row: at each place the sum over the columns i of g^(i*e) times the byte there
unfoldable pub columns_row : ℕ → List ℕ → ℕ → ℕ → ℕ → ℕ → List ℕ
columns_row e xs from stride n count = tabulate count (λ p. row e (across xs stride p from n))
