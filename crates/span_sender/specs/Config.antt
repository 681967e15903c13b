-- How large batches are.
use Rattle.span_sender.specs.declared.config.BatchConfig.{BatchConfig}

-- for a queue that holds one batch at most
abbrev pub one_batch : BatchConfig → BatchConfig
one_batch config =
    record config { max_queue_size = config.max_export_batch_size; room = config.batch }
