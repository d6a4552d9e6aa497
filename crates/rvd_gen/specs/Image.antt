-- The generated image, an executable of n functions: the headers, the code and the strings.
use Rattle.std.specs.Prelude.{ℕ, List, ◌++◌}
use Rattle.rvd_gen.specs.Header.{headers}
use Rattle.rvd_gen.specs.Code.{code}
use Rattle.rvd_gen.specs.Strings.{strings}

abbrev pub image : ℕ → List ℕ
image n = headers n ++ code n ++ strings n
