-- A matrix of bytes times columns of bytes, place by place: what is formed, and which numbers are taken.
use Rattle.std.specs.Prelude.{ℕ, ◌+◌, ◌*◌, ◌/◌, ◌%◌, Bool, true, cond, ◌&&◌, List, [], ◌∷◌, map, leb, eqb, length, get_or}
use Rattle.field.specs.Bytes.{tabulate}
use Rattle.points.specs.Lagrange.{dot}

-- row s of a matrix of m columns, which stands row after row
unfoldable pub row_of : ℕ → List ℕ → ℕ → List ℕ
row_of m ms s = tabulate m (λ i. get_or ms (s * m + i) 0)

-- the bytes at place p of the columns with these numbers: column c starts at from + c * stride
unfoldable pub bytes_at : List ℕ → ℕ → ℕ → ℕ → List ℕ → List ℕ
bytes_at xs from stride p cs = map (λ c. get_or xs (from + c * stride + p) 0) cs

-- the rows, `count` bytes each, one after another: row s at place q is row s of the matrix times the bytes at place q of these columns
unfoldable pub applied : ℕ → List ℕ → List ℕ → List ℕ → ℕ → ℕ → ℕ → List ℕ
applied rows cs ms xs from stride count =
    tabulate (rows * count) (λ n. dot (row_of (length cs) ms (n / count)) (bytes_at xs from stride (n % count) cs))

-- 1 to 16 rows, 1 to 255 columns, 1 to 4,096 places
unfoldable pub numbers_fit : ℕ → ℕ → ℕ → Bool
numbers_fit rows m count = leb 1 rows && leb rows 16 && leb 1 m && leb m 255 && leb 1 count && leb count 4096

-- each of these columns ends within b bytes
unfoldable pub columns_fit : List ℕ → ℕ → ℕ → ℕ → ℕ → Bool
columns_fit [] b from stride count = true
columns_fit (c ∷ cs) b from stride count = leb (from + c * stride + count) b && columns_fit cs b from stride count

-- the numbers are allowed, a bytes are the matrix, b bytes hold the columns, and c bytes are the rows
unfoldable pub matrix_fits : ℕ → List ℕ → ℕ → ℕ → ℕ → ℕ → ℕ → ℕ → Bool
matrix_fits rows cs from stride count a b c =
    numbers_fit rows (length cs) count && eqb a (rows * length cs) && columns_fit cs b from stride count && eqb c (rows * count)

-- what a buffer holds that the rows were filled into: what it held, where the numbers do not fit
unfoldable pub becomes : ℕ → List ℕ → List ℕ → List ℕ → ℕ → ℕ → ℕ → List ℕ → List ℕ
becomes rows cs ms xs from stride count ps =
    cond (matrix_fits rows cs from stride count (length ms) (length xs) (length ps)) (applied rows cs ms xs from stride count) ps
