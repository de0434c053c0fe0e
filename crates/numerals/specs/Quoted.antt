-- The bytes of a quoted text, for names and worked examples. Assumes nothing.
use Rattle.std.specs.Prelude.{List, [], ◌∷◌, ℕ}
use Prim.Native.Char.{code}
use Prim.Native.String as Quote

-- the codes of its characters, which are its bytes where all are below 128
abbrev pub bytes : Quote.String → List ℕ
bytes Quote.[] = []
bytes (Quote.◌∷◌ c cs) = code c ∷ bytes cs
