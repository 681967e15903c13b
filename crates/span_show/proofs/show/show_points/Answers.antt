use Rattle.std.proofs.Common.{List, string_bytes, subst}
use Rattle.std.specs.Io.KnownBytes.{Appends}
use Rattle.span_show.specs.Show.{IsExport, IsExportOf}
use Rattle.span_times.specs.declared.happening.Point.{Point}
use Rattle.span_show.proofs.show.show_points.Goals as goal

pub returns-in-Ok-clause-shown : goal.returns-in-Ok-clause-shown
returns-in-Ok-clause-shown g c =
    let format = c.args.format in
    let text = string_bytes c.in_ok-text.text in
    let all : IsExportOf _ format c.args.requests.now text = record {
      taken = c.in_ok-taken.taken;
      table = c.table.result;
      told = c.in_ok-taken.ensures.told;
      sites = c.table.ensures.sites;
      fields = c.table.ensures.fields;
      above = c.table.ensures.above;
      exported = subst (λ (ps : List Point). IsExport format c.table.result ps text) c.deref.ensures.value c.in_ok-text.ensures;
    } in (
      text,
      all,
      subst (λ bytes. Appends (g.W.Write.contents c.args.writer) (g.W.Write.contents c.write_all.new.self) bytes)
          c.as_bytes.ensures.value c.in-Ok.ensures.bytes,
    )
