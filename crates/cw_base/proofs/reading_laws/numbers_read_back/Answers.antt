use Rattle.cw_base.proofs.ReadingLaws.{bytes_read_back, byte_reads_back, be16_reads_back, be32_reads_back, be64_reads_back, varint_reads_back, config_reads_back}
use Rattle.cw_base.proofs.reading_laws.numbers_read_back.Goals as goal

pub returns : goal.returns
returns c = record {
  bytes = bytes_read_back;
  byte = byte_reads_back;
  two = be16_reads_back;
  four = be32_reads_back;
  eight = be64_reads_back;
  short_form = varint_reads_back;
  config = config_reads_back;
}
