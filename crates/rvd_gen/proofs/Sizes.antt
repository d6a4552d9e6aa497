-- The lengths of an image and of its parts. Use `length-image` for the whole.
use Rattle.std.proofs.Common.{◌≡◌, ℕ, ◌+◌, ◌*◌, ◌++◌, length, refl, arith, length-append}
use Rattle.rvd_gen.specs.Header.{headers, file_header_bytes, program_header_bytes}
use Rattle.rvd_gen.specs.Code.{code, function_bytes}
use Rattle.rvd_gen.specs.Strings.{strings, string}
use Rattle.rvd_gen.specs.Image.{image}
use Rattle.rvd_gen.proofs.Ranges.{length-flat_map-range}

length-headers : (n : ℕ) → length (headers n) ≡ 116
unfolding file_header_bytes program_header_bytes
length-headers n = refl

length-function : (n i : ℕ) → length (function_bytes n i) ≡ 32
unfolding function_bytes
length-function n i = refl

length-string : (i : ℕ) → length (string i) ≡ 16
unfolding string
length-string i = refl

pub length-image : (n : ℕ) → length (image n) ≡ 116 + 48 * n
length-image n =
    let head = length-headers n in
    let functions = length-flat_map-range (function_bytes n) 32 (length-function n) 0 n in
    let texts = length-flat_map-range string 16 length-string 0 n in
    let front = length-append (headers n) (code n) in
    let whole = length-append (headers n ++ code n) (strings n) in
    omega (arith, head, functions, texts, front, whole)
