-- Where the parts of an image stand: in the file the headers, the code and the strings, one after the other, and in memory
-- the code and the strings, each at an address of its own. A function is eight instructions, and a string sixteen bytes.
use Rattle.std.specs.Prelude.{ℕ, ◌+◌, ◌*◌}

-- the most functions of an image
abbrev pub max_functions : ℕ
max_functions = 30000

-- the bytes of the file header and of two program headers
abbrev pub headers_size : ℕ
headers_size = 52 + 2 * 32

-- the address of the code, and its bytes for n functions
abbrev pub code_start : ℕ
code_start = 0x00010000

abbrev pub code_size : ℕ → ℕ
code_size n = 32 * n

-- the address of the strings, and the bytes of n strings
abbrev pub strings_start : ℕ
strings_start = 0x00200000

abbrev pub strings_size : ℕ → ℕ
strings_size n = 16 * n

-- the address of function i, and of string i
abbrev pub function_at : ℕ → ℕ
function_at i = code_start + code_size i

abbrev pub string_at : ℕ → ℕ
string_at i = strings_start + strings_size i
