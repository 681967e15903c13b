-- What is shown of a script.
use Rattle.std.specs.Prelude.{◌≡◌, ℕ, List, [], ◌++◌, None, Option, String, IfSome, codes, flat_map, map, string_bytes}
use Rattle.std.specs.Io.KnownBytes.{Appends}
use Rattle.std.specs.Str.Lossy.{utf8_lossy}
use Rattle.std.specs.declared.alloc.Global.{Global}
use Rattle.span_dispatch.specs.Contract.{SubscriberOf}
use Rattle.span_dispatch.specs.declared.request.Request.{Request}
use Rattle.span_export.specs.Chrome.{trace_of}
use Rattle.span_export.specs.Folded.{folded, scopes_folded}
use Rattle.span_export.specs.Json.{AreCompact, Means}
use Rattle.span_otlp.specs.Otlp.{AllMean, requests_of}
use Rattle.span_export.specs.Page.{IsPage}
use Rattle.span_export.specs.Picture.{IsPicture}
use Rattle.span_otlp.specs.declared.otlp.Trace.{Trace}
use Rattle.span_fmt.specs.Forms.{known_by_form, lines_give, names_by_form, names_by_tree, tree_gives}
use Rattle.span_fmt.specs.Known.{nothing_known}
use Rattle.span_fmt.specs.declared.forms.LinesForm.{LinesForm}
use Rattle.span_fmt.specs.declared.forms.TreeForm.{TreeForm}
use Rattle.span_store.specs.Store.{RegistryState}
use Rattle.span_script.specs.Script.{AskFor, IsSpelled}
use Rattle.span_script.specs.declared.line.Line.{Line}
use Rattle.span_script.specs.declared.stack_name.StackName.{StackName}
use Rattle.span_show.specs.Serve.{IsStreamed, IsToldOf, WithStream}
use Rattle.span_show.specs.declared.format.Export.TheVariants.{Chrome, Folded, Otlp, Page, Scopes, Svg, Timing}
use Rattle.span_show.specs.declared.format.Export.{Export}
use Rattle.span_show.specs.declared.format.Format.TheVariants.{Lines, Points, Tree}
use Rattle.span_show.specs.declared.format.Format.{Format}
use Rattle.span_times.specs.Serving.{WithTimeline}
use Rattle.span_times.specs.declared.clock.Counted.{Counted}
use Rattle.span_times.specs.declared.happening.Point.{Point}
use Rattle.span_times.specs.declared.kept.Table.{Table}
use Rattle.span_times.specs.declared.kept.Taken.{Taken}
use Rattle.span_times.specs.declared.site.Site.{Site}
use Rattle.span_timing.specs.Life.{events_of, lives_of}
use Rattle.span_timing.specs.Text.{timing_text}
use Rattle.span_timing.specs.Timing.{IsTimingOf}
use Rattle.span_timing.specs.declared.timing.Timing.{Timing as TimingState}

-- the word of a format
abbrev pub format_word : Format → List ℕ
format_word Tree = codes "tree"
format_word Lines = codes "lines"
format_word (Points Chrome) = codes "chrome"
format_word (Points Otlp) = codes "otlp"
format_word (Points Folded) = codes "folded"
format_word (Points Scopes) = codes "scopes"
format_word (Points Timing) = codes "timing"
format_word (Points Svg) = codes "svg"
format_word (Points Page) = codes "page"

-- a text as a line
abbrev pub line_of : String Global → List ℕ
line_of text = string_bytes text ++ codes "\n"

-- the trace of a script: the first, of the service `script`, whose clock began with 1970; it has no
-- parent, no attributes, and a scope without name and version
pub record IsTrace (trace : Trace) : Type 0 where
  pub id : trace.id ≡ 1
  pub service : string_bytes trace.service ≡ codes "script"
  pub began : trace.began ≡ 0
  pub parent : trace.parent ≡ None
  pub attributes : trace.attributes.items ≡ []
  pub scope_name : string_bytes trace.scope.name ≡ []
  pub scope_version : string_bytes trace.scope.version ≡ []

-- the spans that closed, each a line that means OpenTelemetry's request for it
pub record IsOtlp (table : Table) (points : List Point) (text : List ℕ) : Type 0 where
  pub trace : Trace
  pub scripts : IsTrace trace
  pub lines : List (String Global)
  pub mean : AllMean (map string_bytes lines) (requests_of trace table points)
  pub compact : AreCompact (map string_bytes lines)
  pub joined : text ≡ flat_map line_of lines

-- the table of how long the spans took that close at these points, and how often events came
pub record IsTable (sites : List Site) (points : List Point) (text : List ℕ) : Type 0 where
  pub timing : TimingState
  pub counts : IsTimingOf (lives_of points) (events_of points) timing
  pub table : text ≡ timing_text timing sites

-- points as a text in a format; a picture is 960 wide, and in a page 1,000,000
abbrev pub IsExport : Export → Table → List Point → List ℕ → Type 0
IsExport Chrome table points text = Means text (trace_of table points)
IsExport Otlp table points text = IsOtlp table points text
IsExport Folded table points text = text ≡ folded table points
IsExport Scopes table points text = text ≡ scopes_folded table points
IsExport Timing table points text = IsTable table.sites.now points text
IsExport Svg table points text = IsPicture text table points 960
IsExport Page table points text = IsPage text table points 1000000

-- the points of these requests are exported so, with what they refer to
pub record IsExportOf (s : SubscriberOf (WithTimeline RegistryState Counted)) (format : Export)
    (requests : List Request) (text : List ℕ) : Type 0 where
  pub taken : Taken
  pub table : Table
  pub told : IsToldOf s requests taken
  pub sites : table.sites.now ≡ taken.sites.items
  pub fields : table.fields.now ≡ taken.fields.items
  pub above : table.above.now ≡ taken.above.items
  pub exported : IsExport format table taken.points.items text

-- Below: a writer, before and after.
module _ {W : Type 0} (contents : W → Option (List ℕ)) where
  -- a text was written behind what was there
  abbrev pub IsWritten : (List ℕ → Type 0) → W → W → Type 0
  IsWritten Is writer after =
      (text : List ℕ) × Is text × Appends (contents writer) (contents after) text

  module _ (t : SubscriberOf (WithStream TreeForm W)) (l : SubscriberOf (WithStream LinesForm W))
      (s : SubscriberOf (WithTimeline RegistryState Counted)) where
    -- what is shown of these requests: the lines of a tree or of `Lines`, as they come, or an
    -- export of their points
    abbrev pub IsShown : Format → List Request → W → W → Type 0
    IsShown Tree requests writer after =
        (form : TreeForm) × (names_by_tree form ≡ nothing_known)
        × IsStreamed tree_gives t contents form requests writer after
    IsShown Lines requests writer after =
        (form : LinesForm) × (known_by_form form ≡ nothing_known)
        × (names_by_form form ≡ nothing_known)
        × IsStreamed lines_give l contents form requests writer after
    IsShown (Points format) requests writer after =
        IsWritten (IsExportOf s format requests) writer after

    -- the text spells a stack, whichever, and lines; these ask for requests, and this is shown of
    -- them
    pub record Shows (format : Format) (text : List ℕ) (writer after : W) : Type 0 where
      pub stack : StackName
      pub lines : List Line
      pub requests : List Request
      pub spelled : IsSpelled text stack lines
      pub asked : AskFor lines requests
      pub shown : IsShown format requests writer after

    -- what is shown of the bytes that a reader gives, if they are known
    abbrev pub ShowsOf : Format → Option (List ℕ) → W → W → Type 0
    ShowsOf format given writer after =
        IfSome given (λ bytes. Shows format (utf8_lossy bytes) writer after)
