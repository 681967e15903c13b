use Rattle.std.proofs.Common.{◌∙◌, None, ap, flat_map, refl}
use Rattle.span_show.proofs.Read.{on_ok}
use Rattle.span_show.specs.Show.{line_of}
use Rattle.span_show.proofs.export.otlp_text.Goals as goal

pub returns : goal.returns
returns c = on_ok c.text_of.result c.text_of.ensures (λ text joined. record {
  trace = record { id = 1; service = c.in_ok-from_str.field-0; began = 0; parent = None; attributes = c.new.result; scope = c.unknown.result };
  scripts = record {
    id = refl;
    service = c.in_ok-from_str.ensures.ok;
    began = refl;
    parent = refl;
    attributes = c.new.ensures.items;
    scope_name = c.unknown.ensures.name;
    scope_version = c.unknown.ensures.version;
  };
  lines = c.in_ok-lines.lines.items;
  mean = c.in_ok-lines.ensures.mean;
  compact = c.in_ok-lines.ensures.compact;
  joined = joined ∙ ap (flat_map line_of) c.deref.ensures.value;
})
