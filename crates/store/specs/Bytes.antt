-- Bytes as cells of w bytes. Assumes nothing.
use Rattle.std.specs.Prelude.{ℕ, ◌*◌, ◌/◌, List, length, drop, replicate}
use Rattle.std.specs.Simd.{first_chunks}

-- w bytes for each cell, from byte 0 on; only whole cells count
unfoldable pub blocks : ℕ → List ℕ → List (List ℕ)
blocks w bs = first_chunks w (length bs / w) bs

-- the bytes after the last whole cell
unfoldable pub spare : ℕ → List ℕ → List ℕ
spare w bs = drop (w * (length bs / w)) bs

-- w bytes that are 0
unfoldable pub blank_bytes : ℕ → List ℕ
blank_bytes w = replicate w 0
