-- How lines look.
use Rattle.std.specs.Prelude.{◌-◌, if◌then◌else◌, ℕ, Bool, true, false, List, [], ◌∷◌, ◌++◌, codes, decimal, length, replicate}
use Rattle.span_core.specs.Level.{level_text}
use Rattle.span_core.specs.declared.level.Level.{Level}
use Rattle.span_core.specs.declared.metadata.Metadata.{Metadata}
use Rattle.span_fmt.specs.Known.{nothing_known}
use Rattle.span_fmt.specs.Lane.{Naming, name_or_number, names_in}
use Rattle.span_format.specs.Style.{dim_target, styled}
use Rattle.span_format.specs.declared.layout.Layout.{Layout}
use Rattle.span_format.specs.declared.look.Look.{Look}
use Rattle.span_format.specs.declared.style.Style.TheVariants as style

-- how lines look: how they are laid out, whether they show levels, targets and lanes, whether parts
-- of them are in styles, and by lanes' numbers the lanes' names, empty where there is none
pub record Looks : Type 0 where
  pub layout : Layout
  pub level : Bool
  pub target : Bool
  pub lanes : Bool
  pub ansi : Bool
  pub names : Naming

-- how they look where nothing else is asked for
abbrev pub new_looks : Layout → Looks
new_looks how = record {
  layout = how;
  level = true;
  target = true;
  lanes = false;
  ansi = false;
  names = nothing_known;
}

-- how lines look by this `Look`
abbrev pub looks : Look → Looks
looks x = record {
  layout = x.layout;
  level = x.level;
  target = x.target;
  lanes = x.lanes;
  ansi = x.ansi;
  names = names_in x.names;
}

-- the spaces in front of a level that is at the right of five columns
abbrev pub margin : Level → List ℕ
margin level = replicate (5 - length (level_text level)) 32

-- a level at the right of five columns, coloured if styles are asked for, and a space, if shown
abbrev pub level_column : Looks → Level → List ℕ
level_column look level =
    if look.level then
    styled look.ansi (style.Level level) (margin level ++ level_text level) ++ codes " "
    else []

-- a lane by its name in quotes, or by its number where it has none
abbrev pub lane_text : Looks → ℕ → List ℕ
lane_text look lane = name_or_number (look.names lane) lane

-- a lane and a space, where lanes are shown
abbrev pub lane_column : Looks → ℕ → List ℕ
lane_column look lane = if look.lanes then lane_text look lane ++ codes " " else []

-- how a line begins: with its level and its lane
abbrev pub begun_text : Looks → ℕ → Level → List ℕ
begun_text look lane level = level_column look level ++ lane_column look lane

-- a target, dimmed where styles are asked for, a colon and a space, where targets are shown
abbrev pub target_text : Looks → Metadata → List ℕ
target_text look m = if look.target then dim_target look.ansi m ++ codes ": " else []
