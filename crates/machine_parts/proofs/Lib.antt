mod ConstantTexts
mod HeapLaws
mod MonitorLaws
