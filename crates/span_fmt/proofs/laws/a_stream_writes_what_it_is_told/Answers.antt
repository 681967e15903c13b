use Rattle.span_fmt.proofs.Streamed.{stream_written}
use Rattle.span_fmt.proofs.laws.a_stream_writes_what_it_is_told.Goals as goal

pub returns : goal.returns
returns g c = stream_written g.F.Form.gives g.F.Form.misses g.W.Write.contents
