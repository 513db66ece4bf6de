-- What a file says can be played; for the contracts of private functions.
--   block_in S              the length of a block
--   given file              the block that a file gives
--   FileSettings S          the settings of a system file
--   Rooms input places S    each message of the table stands in the file
--   Playable input file     settings, a block, and messages that stand in the file
use Rattle.std.specs.Prelude.{◌≡◌, List, ℕ, ◌+◌, ◌*◌, ◌≤◌, length, take}
use Rattle.settings.specs.declared.Settings.{Settings}
use Rattle.settings.specs.Valid.{Coded}
use Rattle.wire.specs.Length.{block_length, message_length}
use Rattle.system_file.specs.declared.SystemFile.{SystemFile}
use Rattle.system_file.specs.Table.{place_in}

abbrev pub block_in : Settings → ℕ
block_in S = block_length S.k S.t

abbrev pub given : SystemFile → List ℕ
given file = take (block_in file.settings) file.block

pub record FileSettings (S : Settings) : Type 0 where
  pub coded : Coded S.n S.t S.k
  pub few-stripes : S.k ≤ 32

-- each message of the table stands in the file
pub record Rooms (input places : List ℕ) (S : Settings) : Type 0 where
  pub input_most : length input ≤ 65536
  pub room : (r f j : ℕ) → (place_in places r f j ≡ 0 → ⊥) → place_in places r f j + 2 * message_length S.n S.t S.k r ≤ length input

pub record Playable (input : List ℕ) (file : SystemFile) : Type 0 where
  pub small : FileSettings file.settings
  pub rooms : Rooms input file.places file.settings
  pub block_is : length (given file) ≡ block_in file.settings
